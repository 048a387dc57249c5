-- Where entering a text stopped: its line, or why it has none.
use Rattle.std.specs.Prelude.{◌≡◌, ℕ, ◌-◌, ◌<◌, ◌≤◌, ◌⊎◌, List, [], length, Some, None, Option, slice_index_or}
use Rattle.entry.specs.declared.error.Cause.{Cause}
use Rattle.entry.specs.declared.error.Cause.TheVariants.{Refused as Turned, Lost as Astray, Memory as Short}
use Rattle.entry.specs.declared.error.EntryError.{EntryError}
use Rattle.entry.specs.declared.error.EntryError.TheVariants.{Refused, Unready, Lost, Memory}
use Rattle.entry.specs.declared.error.Place.{Place}
use Rattle.entry.specs.declared.error.Place.TheVariants.{Start, Part, Reference, Edit}
use Rattle.entry.specs.declared.error.Stop.{Stop}
use Rattle.heap.specs.Calls.{size_checks}
use Rattle.heap.specs.Refusals.{cause_of}
use Rattle.heap.specs.States.{State}
use Rattle.ledgers.specs.Meaning.{Ops}
use Rattle.parts.specs.Finds.{Finds}
use Rattle.parts.specs.Text.{Bytes}
use Rattle.parts.specs.declared.lookup.LineKind.TheVariants.{Mention, Description, Edit as AnEdit}
use Rattle.refusals.specs.declared.refusal.Refusal.{Refusal}

-- The name of a part: parts are numbered from 1.
abbrev pub name_of : List Bytes → ℕ → Bytes
name_of names part = slice_index_or names (part - 1) []

-- The line of what was being entered: of a part, the first that mentions it; of a reference, that which describes its part; of an edit, that edit.
abbrev pub LineOf : List Bytes → List Bytes → Place → Option ℕ → Type 0
LineOf names ls Start n = n ≡ None
LineOf names ls (Part part) n = Finds Mention (name_of names part) ls 0 n
LineOf names ls (Reference part) n = Finds Description (name_of names part) ls 0 n
LineOf names ls (Edit i) n = Finds AnEdit [] ls i n

-- The error of the text: a refusal with the line of what was being entered, or without where there is none. Where there is no memory to look for it, that is the error.
abbrev pub Located : List Bytes → List Bytes → Place → Cause → EntryError → Type 0
Located names ls place (Turned r) (Refused line refusal) = (refusal ≡ r) × LineOf names ls place (Some line)
Located names ls place (Turned r) (Unready refusal) = (refusal ≡ r) × LineOf names ls place None
Located names ls place (Turned r) Lost = ⊥
Located names ls place (Turned r) Memory = Unit {0}
Located names ls place Astray e = e ≡ Lost
Located names ls place Short e = e ≡ Memory

-- A refusal is told with the line of what was being entered.
abbrev pub Blamed : List Bytes → List Bytes → EntryError → Type 0
Blamed names ls (Refused line refusal) = (place : Place) × LineOf names ls place (Some line)
Blamed names ls (Unready refusal) = Unit {0}
Blamed names ls Lost = Unit {0}
Blamed names ls Memory = Unit {0}

-- Something of a drawing with so many parts and edits; and part 0, at which closing may stop. Where there are parts, its name is that of the first, and where there are none, no line mentions it.
abbrev pub IsOf : ℕ → ℕ → Place → Type 0
IsOf parts edits Start = ⊥
IsOf parts edits (Part part) = part ≤ parts
IsOf parts edits (Reference part) = (1 ≤ part) × (part ≤ parts)
IsOf parts edits (Edit i) = i < edits

-- If a call was refused, something of the drawing was being entered.
abbrev pub InDrawing : ℕ → ℕ → Stop → Type 0
InDrawing parts edits stop = (refusal : Refusal) → stop.cause ≡ Turned refusal → IsOf parts edits stop.place

module _ {L : Type 0} (o : Ops L) where
  -- Why the heap can't be given its 1,024 cells, if it can't.
  abbrev pub unready : State → L → Option Refusal
  unready s l = cause_of (size_checks (o.capacity l) s 1024)

  -- If a call was refused, it is the one that gives the heap its cells, or something of the drawing was being entered.
  abbrev pub Refusing : ℕ → ℕ → State → L → Stop → Type 0
  Refusing parts edits s l stop = (refusal : Refusal) → stop.cause ≡ Turned refusal → ((stop.place ≡ Start) × (unready s l ≡ Some refusal)) ⊎ IsOf parts edits stop.place

  -- A refusal is told without a line only where the heap can't be given its cells, or where something of the drawing has no line in the text.
  abbrev pub Unblamed : List Bytes → ℕ → List Bytes → State → L → EntryError → Type 0
  Unblamed names edits ls s l (Unready refusal) = (unready s l ≡ Some refusal) ⊎ ((place : Place) × IsOf (length names) edits place × LineOf names ls place None)
  Unblamed names edits ls s l (Refused line refusal) = Unit {0}
  Unblamed names edits ls s l Lost = Unit {0}
  Unblamed names edits ls s l Memory = Unit {0}
