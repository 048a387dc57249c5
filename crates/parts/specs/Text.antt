-- How a text is cut: into lines, and a line into words.
use Rattle.std.specs.Prelude.{ℕ, Bool, ◌||◌, List, length, filter, ◌==◌, nat_lt}
use Rattle.std.specs.List.{slice_split}

-- A text, or any piece of one.
abbrev pub Bytes : Type 0
Bytes = List ℕ

abbrev pub newline : ℕ → Bool
newline b = b == 10

-- Spaces, tabs and carriage returns keep words apart.
abbrev pub blank : ℕ → Bool
blank b = b == 32 || (b == 9 || b == 13)

-- The lines of a text stand between its newlines, empty ones too: there is one more than there are newlines.
abbrev pub lines : Bytes → List Bytes
lines = slice_split newline

-- The words of a line are those of its pieces between blanks that are not empty.
abbrev pub words : Bytes → List Bytes
words line = filter (λ p. nat_lt 0 (length p)) (slice_split blank line)
