-- The edits of a drawing's slots that a text makes, and what is wrong with one that makes none.
use Rattle.std.specs.Prelude.{◌≡◌, ℕ, ◌+◌, ◌-◌, ◌*◌, ◌<◌, ◌≤◌, Bool, cond, not, ◌&&◌, ◌||◌, List, [], ◌∷◌, ◌++◌, map, length, take, Some, None, Ok, Err, filter, Option, Result, ◌==◌, nat_lt, slice_index, slice_index_or}
use Rattle.std.specs.List.{list_any, AllByRecursion}
use Rattle.std.specs.Str.{bytes_eq}
use Rattle.parts.specs.Drawn.{is_edit, subject, Called}
use Rattle.parts.specs.Faults.{check, first_fault}
use Rattle.parts.specs.Text.{Bytes, words}
use Rattle.parts.specs.declared.edits.Edit.{Edit}
use Rattle.parts.specs.declared.fault.LineError.{LineError}
use Rattle.parts.specs.declared.fault.LineError.TheVariants.{Wrong, Memory}
use Rattle.parts.specs.declared.fault.Fault.{Fault}
use Rattle.parts.specs.declared.fault.Fault.TheVariants.{BadEdit, UnknownPart}
use Rattle.parts.specs.declared.fault.ReadError.{ReadError}
use Rattle.parts.specs.declared.fault.ReadError.TheVariants.{Wrong as WrongLine, Memory as NoMemory}

-- The edits of a text, in order: each by its words.
abbrev pub edit_lines : List Bytes → List (List Bytes)
edit_lines ls = filter is_edit (map words ls)

-- A slot is written as the name of its part, which is not empty, a dot, and a digit from 0 to 3.
pub record Slot (w name : Bytes) (f : ℕ) : Type 0 where
  pub some : 0 < length name
  pub small : f < 4
  pub written : w ≡ name ++ 46 ∷ (48 + f) ∷ []

-- Whether a word is so written: before its last two bytes, which are the dot and the digit, stands at least one.
abbrev pub is_slot : Bytes → Bool
is_slot w =
    nat_lt 2 (length w) && (slice_index w (length w - 2) == 46 && (nat_lt 47 (slice_index w (length w - 1)) && nat_lt (slice_index w (length w - 1)) 52))

-- The name of the part is what stands before the dot and the digit.
abbrev pub owner : Bytes → Bytes
owner w = take (length w - 2) w

-- Whether a drawing has a part of this name.
abbrev pub is_part : List Bytes → Bytes → Bool
is_part names w = list_any (λ v. bytes_eq v w) names

-- What is wrong with an edit of a drawing whose parts have these names.
abbrev pub edit_fault : List Bytes → List Bytes → Option Fault
edit_fault names ws = first_fault (
    check (nat_lt 3 (length ws) || not (is_slot (subject ws))) BadEdit
    ∷ check (not (is_part names (owner (subject ws))) || (nat_lt 2 (length ws) && not (is_part names (slice_index_or ws 2 [])))) UnknownPart
    ∷ [])

-- The edit that a line makes: slot f of part c, which its first word names, gets the part that its third word names, or becomes empty.
pub record Makes (names : List Bytes) (ws : List Bytes) (e : Edit) : Type 0 where
  pub name : Bytes
  pub c : ℕ
  pub f : ℕ
  pub target : Slot (subject ws) name f
  pub part : Called names c name
  pub slot : e.slot ≡ 4 * (c - 1) + f
  pub filled : 2 < length ws → Called names e.content (slice_index_or ws 2 [])
  pub emptied : length ws ≤ 2 → e.content ≡ 0

-- The edits that lines make, one for each line and in their order.
abbrev pub Make : List Bytes → List (List Bytes) → List Edit → Type 0
Make names [] [] = Unit {0}
Make names [] (e ∷ es) = ⊥
Make names (ws ∷ wss) [] = ⊥
Make names (ws ∷ wss) (e ∷ es) = Makes names ws e × Make names wss es

-- A drawing of n parts has such a slot, and a part that goes there unless the slot becomes empty.
pub record Within (n : ℕ) (e : Edit) : Type 0 where
  pub slot : e.slot < 4 * n
  pub content : e.content ≤ n

-- What is wrong with a line of these words: only an edit can have such a fault.
abbrev pub fault_by : List Bytes → List Bytes → Option Fault
fault_by names ws = cond (is_edit ws) (edit_fault names ws) None

-- What is wrong with line j of a text, from 0.
abbrev pub edit_fault_at : List Bytes → List Bytes → ℕ → Option Fault
edit_fault_at names ls j = fault_by names (words (slice_index_or ls j []))

-- No edit in the first j lines has a fault.
abbrev pub Clean : List Bytes → List Bytes → ℕ → Type 0
Clean names ls j = (i : ℕ) → i < j → edit_fault_at names ls i ≡ None

-- No edit of the text has a fault, and these are its edits.
pub record Edited (names ls : List Bytes) (es : List Edit) : Type 0 where
  pub clean : Clean names ls (length ls)
  pub made : Make names (edit_lines ls) es
  pub within : AllByRecursion (Within (length names)) es

-- Line n, counted from 1, is the first whose edit has a fault.
pub record Misedited (names ls : List Bytes) (n : ℕ) (e : Fault) : Type 0 where
  pub some : 1 ≤ n
  pub within : n ≤ length ls
  pub fault : edit_fault_at names ls (n - 1) ≡ Some e
  pub before : Clean names ls (n - 1)

-- Why a text gives no edits.
abbrev pub Unedited : List Bytes → List Bytes → ReadError → Type 0
Unedited names ls (WrongLine line fault) = Misedited names ls line fault
Unedited names ls NoMemory = Unit {0}

-- What a line of these words edits: one slot or none.
abbrev pub edited : List Bytes → List (List Bytes)
edited ws = cond (is_edit ws) (ws ∷ []) []

-- What one more line makes of the edits before it.
abbrev pub Collected : List Bytes → List Bytes → List Edit → List Edit → Result (Unit {0}) LineError → Type 0
Collected names ws before after (Ok _) =
    (fault_by names ws ≡ None) × ((wss : List (List Bytes)) → Make names wss before → Make names (wss ++ edited ws) after)
Collected names ws before after (Err (Wrong e)) = fault_by names ws ≡ Some e
Collected names ws before after (Err Memory) = Unit {0}
