-- What a ledger tells of the parts.
use Rattle.std.specs.Prelude.{◌≡◌, ℕ, ◌*◌, ◌<◌, ◌≤◌, List, length, Some, vec_items, Decides, slice_index, slice_index_or}
use Rattle.entry.specs.declared.answers.Answers.{Answers}
use Rattle.entry.specs.declared.answers.Told.{Told}
use Rattle.ledgers.specs.Meaning.{Ops, Settled}
use Rattle.ledgers.specs.Tables.{Cell, holders}

-- What is told of the part in cell x, where the heap has n cells and these slots.
-- A number told is that of the slots that contain the cell; one is told where the ceiling is at least the number of slots. Nobody points to the part exactly if 0 is told.
pub record Counted (ceiling n : ℕ) (t : List ℕ) (x : ℕ) (told : Told) : Type 0 where
  pub exact : (m : ℕ) → told.references ≡ Some m → m ≡ holders x t
  pub complete : 4 * n ≤ ceiling → told.references ≡ Some (holders x t)
  pub bare : Decides told.bare (told.references ≡ Some 0)

module _ {L : Type 0} (o : Ops L) where
  -- What a settled ledger that agrees with some slots answers of cell x.
  abbrev pub Tells : L → ℕ → Told → Type 0
  Tells l x told = (t : List ℕ) → o.Agrees l t → Settled o l → Cell (o.cells l) x → Counted o.ceiling (o.cells l) t x told

  pub record AllTold (l : L) (cells : List ℕ) (parts : List Told) : Type 0 where
    pub size : length parts ≡ length cells
    pub each : (i : ℕ) (d : Told) → i < length cells → Tells l (slice_index cells i) (slice_index_or parts i d)

  -- What the ledger answered: how much waited, and what it tells of each part in these cells once it is settled, in terms of the slots with which it agreed.
  pub record Answered (l l' : L) (cells : List ℕ) (a : Answers) : Type 0 where
    pub waited : a.waiting ≡ o.waiting l
    pub size : length (vec_items a.parts) ≡ length cells
    pub each : (t : List ℕ) → o.Agrees l t → (i : ℕ) (d : Told) → i < length cells → Cell (o.cells l) (slice_index cells i) → Counted o.ceiling (o.cells l) t (slice_index cells i) (slice_index_or (vec_items a.parts) i d)
    pub settled : (t : List ℕ) → o.Agrees l t → Settled o l' × o.Agrees l' t × (o.cells l' ≡ o.cells l)
