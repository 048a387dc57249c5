-- Which line of a text is found.
use Rattle.std.specs.Prelude.{◌≡◌, ℕ, ◌-◌, ◌≤◌, Bool, true, not, ◌&&◌, List, [], length, take, Some, None, count_by, Option, slice_index_or}
use Rattle.std.specs.Str.{bytes_eq}
use Rattle.parts.specs.Drawn.{is_edit, passed, subject}
use Rattle.std.specs.List.{list_any}
use Rattle.parts.specs.Text.{Bytes, words}
use Rattle.parts.specs.declared.lookup.LineKind.{LineKind}
use Rattle.parts.specs.declared.lookup.LineKind.TheVariants.{Mention, Description, Edit}

-- Whether a line of these words is of the kind that is sought: a description that has the name among its words, the description of the part of that name, or an edit.
abbrev pub is_sought : LineKind → Bytes → List Bytes → Bool
is_sought Mention name ws = not (passed ws) && list_any (λ w. bytes_eq w name) ws
is_sought Description name ws = not (passed ws) && bytes_eq (subject ws) name
is_sought Edit name ws = is_edit ws

-- How many of these lines are of that kind.
abbrev pub sought_in : LineKind → Bytes → List Bytes → ℕ
sought_in kind name ls = count_by (λ l. is_sought kind name (words l)) ls

-- Line n, counted from 1, is of that kind, and so many of that kind stand before it.
pub record Found (kind : LineKind) (name : Bytes) (ls : List Bytes) (skip n : ℕ) : Type 0 where
  pub some : 1 ≤ n
  pub within : n ≤ length ls
  pub here : is_sought kind name (words (slice_index_or ls (n - 1) [])) ≡ true
  pub before : sought_in kind name (take (n - 1) ls) ≡ skip

-- The line that comes after so many of its kind, or none where there are no more than those.
abbrev pub Finds : LineKind → Bytes → List Bytes → ℕ → Option ℕ → Type 0
Finds kind name ls skip (Some n) = Found kind name ls skip n
Finds kind name ls skip None = sought_in kind name ls ≤ skip
