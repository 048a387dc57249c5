-- A drawing between two descriptions, and what one more description makes of it.
use Rattle.std.specs.Prelude.{◌≡◌, ℕ, ◌+◌, ◌-◌, ◌*◌, ◌<◌, ◌≤◌, Bool, true, false, cond, ◌⊎◌, List, [], ◌∷◌, ◌++◌, map, length, Some, None, Ok, Err, vec_items, fold, Option, Result, ◌≢◌, nat_lt, slice_index, slice_index_or}
use Rattle.std.specs.Borrow.{Bor}
use Rattle.std.specs.List.{list_any, ContainsAt as Has, AllByRecursion}
use Rattle.std.specs.Str.{bytes_eq}
use Rattle.parts.specs.Text.{Bytes}
use Rattle.parts.specs.Drawn.{subject, references, Called, content, Drawn}
use Rattle.parts.specs.Faults.{long, unprintable, check, first_fault, fault_of}
use Rattle.parts.specs.declared.drawing.Drawing.{Drawing}
use Rattle.parts.specs.declared.fault.LineError.{LineError}
use Rattle.parts.specs.declared.fault.LineError.TheVariants.{Wrong, Memory}
use Rattle.parts.specs.declared.fault.Fault.{Fault}
use Rattle.parts.specs.declared.fault.Fault.TheVariants.{TooManyReferences, NameTooLong, NameNotPrintable, DescribedTwice, TooManyParts}

-- The texts that a list refers to.
abbrev pub bytes : List (Bor (List ℕ)) → List Bytes
bytes words = map (λ w. w.now) words

-- The names of a drawing's parts.
abbrev pub known : Drawing → List Bytes
known d = bytes (vec_items d.names)

-- A name more, unless it is known.
abbrev pub added : List Bytes → Bytes → List Bytes
added names w = cond (list_any (λ v. bytes_eq v w) names) names (names ++ w ∷ [])

-- Whether a description is about the part of this name.
abbrev pub about : Bytes → List (List Bytes) → Bool
about w ds = list_any (λ d. bytes_eq (subject d) w) ds

-- A drawing after descriptions. That its lists fit one another, and its counts the lists, is in its type.
pub record Building (ds : List (List Bytes)) (d : Drawing) : Type 0 where
  pub drawn : Drawn ds (known d) (vec_items d.slots)
  pub lined : d.lines ≡ length ds
  pub referred : d.references ≡ references ds
  -- the subject of each description is a part
  pub subjects : AllByRecursion (λ ws. Has (known d) (subject ws)) ds
  -- a part's mark says whether a description is about it
  pub told : (k : ℕ) → k < length (known d) → slice_index_or (vec_items d.described) k false ≡ about (slice_index_or (known d) k []) ds
  pub within : (i : ℕ) → slice_index (vec_items d.slots) i ≤ length (known d)

-- What a description leads to.
abbrev pub Described : List (List Bytes) → List Bytes → Drawing → Result (Unit {0}) LineError → Type 0
Described ds ws after (Ok _) = (fault_of ds ws ≡ None) × Building (ds ++ ws ∷ []) after
Described ds ws after (Err (Wrong e)) = fault_of ds ws ≡ Some e
Described ds ws after (Err Memory) = Unit {0}

-- Names are mentioned: those that are new become parts, which are neither described nor point to any.
pub record Grown (ws : List Bytes) (before after : Drawing) : Type 0 where
  pub named : known after ≡ fold added (known before) ws
  pub told : (k : ℕ) → slice_index_or (vec_items after.described) k false ≡ slice_index_or (vec_items before.described) k false
  pub lined : after.lines ≡ before.lines
  pub referred : after.references ≡ before.references

-- A name gets its number c.
pub record Numbered (w : Bytes) (before after : Drawing) (c : ℕ) : Type 0 where
  pub grown : Grown (w ∷ []) before after
  pub called : Called (known after) c w
  pub same : (i : ℕ) → slice_index (vec_items after.slots) i ≡ slice_index (vec_items before.slots) i

-- The slots of a part contain the numbers of these names, and the other slots what they did.
pub record Filled (part : ℕ) (ws : List Bytes) (before after : Drawing) : Type 0 where
  pub grown : Grown ws before after
  pub filled : (f : ℕ) → f < length ws → Called (known after) (content (vec_items after.slots) part f) (slice_index_or ws f [])
  pub others : (i : ℕ) → ((f : ℕ) → f < length ws → i ≢ 4 * (part - 1) + f) → slice_index (vec_items after.slots) i ≡ slice_index (vec_items before.slots) i

-- Whether the part with this number is described.
abbrev pub mark : Drawing → ℕ → Bool
mark d c = slice_index_or (vec_items d.described) (c - 1) false

-- Names are refused only where the parts would be more than 1,024.
abbrev pub Crowded : List Bytes → Drawing → LineError → Type 0
Crowded ws before (Wrong e) = (e ≡ TooManyParts) × (1024 < length (fold added (known before) ws))
Crowded ws before Memory = Unit {0}

-- The subject of a description is refused as well if it is described already.
abbrev pub Unfit : Bytes → Drawing → LineError → Type 0
Unfit w before (Wrong e) =
    ((e ≡ DescribedTwice) × ((c : ℕ) × Called (known before) c w × (mark before c ≡ true))) ⊎ Crowded (w ∷ []) before (Wrong e)
Unfit w before Memory = Unit {0}

-- What is wrong with the words of a description, whatever came before it.
abbrev pub fault_in : List Bytes → Option Fault
fault_in ws =
    first_fault (check (nat_lt 5 (length ws)) TooManyReferences ∷ check (list_any long ws) NameTooLong ∷ check (list_any unprintable ws) NameNotPrintable ∷ [])
