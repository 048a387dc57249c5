-- What a drawing's text says: its parts by name, and which part points to which.
use Rattle.std.specs.Prelude.{◌≡◌, ℕ, ◌+◌, ◌-◌, ◌*◌, ◌<◌, ◌≤◌, Bool, true, not, ◌&&◌, ◌||◌, ◌≢◌, List, [], ◌∷◌, map, length, codes, sum_by, filter, ◌==◌, slice_index, slice_index_or}
use Rattle.std.specs.List.{flat_map, AllByRecursion}
use Rattle.std.specs.Str.{bytes_eq}
use Rattle.parts.specs.Text.{Bytes, words}

-- A line is passed over if it has no word, or if its first word begins with '#'.
abbrev pub idle : List Bytes → Bool
idle [] = true
idle (w ∷ ws) = slice_index w 0 == 35

-- A line that is not passed over is an edit if its second word is '='.
abbrev pub is_edit : List Bytes → Bool
is_edit ws = not (idle ws) && bytes_eq (slice_index_or ws 1 []) (codes "=")

-- What describes no part: a line that is passed over, and an edit.
abbrev pub passed : List Bytes → Bool
passed ws = idle ws || is_edit ws

-- Each other line describes a part: its words are the part's name and then the names of the parts that it points to.
abbrev pub descriptions : List Bytes → List (List Bytes)
descriptions ls = filter (λ ws. not (passed ws)) (map words ls)

-- The name of the part that a description is about.
abbrev pub subject : List Bytes → Bytes
subject ws = slice_index_or ws 0 []

-- Every name in the descriptions, as often as it stands there.
abbrev pub mentions : List (List Bytes) → List Bytes
mentions ds = flat_map (λ ws. ws) ds

-- Each name once, in order of first mention.
abbrev pub firsts : List Bytes → List Bytes
firsts [] = []
firsts (w ∷ ws) = w ∷ filter (λ v. not (bytes_eq v w)) (firsts ws)

-- How many references the descriptions make.
abbrev pub references : List (List Bytes) → ℕ
references ds = sum_by (λ ws. length ws - 1) ds

-- Part c has the name w: parts are numbered from 1.
abbrev pub Called : List Bytes → ℕ → Bytes → Type 0
Called names c w = (1 ≤ c) × (c ≤ length names) × (slice_index_or names (c - 1) [] ≡ w)

-- What slot f of part c contains: the number of a part, or 0 where it is empty.
abbrev pub content : List ℕ → ℕ → ℕ → ℕ
content slots c f = slice_index slots (4 * (c - 1) + f)

-- The references of a description fill the slots of its part from slot 0 on, in their order; the rest of its four slots are empty.
abbrev pub Placed : List Bytes → List ℕ → List Bytes → Type 0
Placed names slots ws =
    (c f : ℕ) → Called names c (subject ws) → f < 4 →
    (f + 1 < length ws → Called names (content slots c f) (slice_index_or ws (f + 1) [])) × (length ws ≤ f + 1 → content slots c f ≡ 0)

-- The drawing that descriptions make: the names of its parts, in order of first mention, and what stands in each slot.
pub record Drawn (ds : List (List Bytes)) (names : List Bytes) (slots : List ℕ) : Type 0 where
  pub named : names ≡ firsts (mentions ds)
  -- four slots a part
  pub size : length slots ≡ 4 * length names
  pub placed : AllByRecursion (Placed names slots) ds
  -- a part that is mentioned and not described points to none
  pub bare : (c : ℕ) → 1 ≤ c → c ≤ length names → AllByRecursion (λ ws. subject ws ≢ slice_index_or names (c - 1) []) ds → (f : ℕ) → f < 4 → content slots c f ≡ 0
