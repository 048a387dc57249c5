-- What replaying a drawing through a ledger gives.
use Rattle.std.specs.Prelude.{◌≡◌, ℕ, ◌-◌, ◌*◌, ◌<◌, ◌≤◌, ◌↔◌, List, [], ◌∷◌, length, get_or, Some, None, Ok, Err, vec_items, Option, Result, slice_index, slice_index_or, slice_set}
use Rattle.ledgers.specs.Meaning.{Ops, Settled}
use Rattle.ledgers.specs.Tables.{Cell, Table, holders}
use Rattle.parts.specs.declared.edits.Edit.{Edit}
use Rattle.replay.specs.declared.replay.ReplayError.{ReplayError}
use Rattle.replay.specs.declared.replay.ReplayError.TheVariants.{TooManyCells, OutOfRange, Memory}
use Rattle.replay.specs.declared.replay.Replayed.{Replayed}
use Rattle.std.specs.List.{ContainsAt as Has, AllByRecursion}

abbrev pub no_edit : Edit
no_edit = record { slot = 0; content = 0 }

-- The table after edits, one after the other.
abbrev pub edited : List ℕ → List Edit → List ℕ
edited t [] = t
edited t (e ∷ es) = edited (slice_set t e.slot e.content) es

-- The slots are a table, and each edit is in its range.
abbrev pub Proper : List ℕ → List Edit → Type 0
Proper slots edits = (n : ℕ) × Table n slots × AllByRecursion (λ e. (e.slot < length slots) × (e.content ≤ n)) edits

-- A content that is no cell of n.
abbrev pub BadContent : ℕ → List ℕ → Type 0
BadContent n contents = (s : ℕ) × (n < slice_index contents s)

-- An edit that is out of range, of a table of some slots for n cells.
abbrev pub BadEdit : ℕ → ℕ → List Edit → Type 0
BadEdit n slots edits = (i : ℕ) × (i < length edits) × ((get_or edits i no_edit).slot < slots → (get_or edits i no_edit).content ≤ n → ⊥)

module _ {L : Type 0} (o : Ops L) where
  -- The ledger follows a table of n cells.
  pub record Follows (n : ℕ) (t : List ℕ) (l : L) : Type 0 where
    pub cells : o.cells l ≡ n
    pub agrees : o.Agrees l t

  -- If the ledger followed the one table, it follows the other now.
  abbrev pub KeepsUp : ℕ → List ℕ → List ℕ → L → L → Type 0
  KeepsUp n t t' l l' = Follows n t l → Follows n t' l'

  -- What the ledger tells of each cell.
  pub record ToldNumbers (n : ℕ) (l : L) (numbers : List (Option ℕ)) : Type 0 where
    pub size : length numbers ≡ n
    pub told : (c : ℕ) → Cell n c → slice_index_or numbers (c - 1) None ≡ o.tells l c

  -- It follows some table of n cells.
  abbrev pub SomeTable : ℕ → L → Type 0
  SomeTable n l = (t : List ℕ) × Follows n t l

  -- The listed cells are exactly those of which 0 is told.
  abbrev pub ZerosListed : ℕ → L → List ℕ → Type 0
  ZerosListed n l zeros = (c : ℕ) → Has zeros c ↔ (Cell n c × (o.tells l c ≡ Some 0))

  -- The ledger is settled and follows the table that was replayed. It answered what it tells, and before it was settled how much waited.
  pub record Replays (n : ℕ) (t : List ℕ) (l : L) (r : Replayed) : Type 0 where
    pub follows : Follows n t l
    pub settled : Settled o l
    pub waited : (m : L) × o.Settles m l × (r.waiting ≡ o.waiting m)
    pub numbers : ToldNumbers n l (vec_items r.numbers)
    pub zeros : ZerosListed n l (vec_items r.zeros)

  -- What can't be replayed, and why.
  abbrev pub Refused : List ℕ → List Edit → L → ReplayError → Type 0
  Refused slots edits l TooManyCells = 4 * o.capacity l < length slots
  Refused slots edits l OutOfRange = Proper slots edits → ⊥
  Refused slots edits l Memory = Unit {0}

  abbrev pub Replaying : List ℕ → List Edit → L → L → Result Replayed ReplayError → Type 0
  Replaying slots edits l l' (Ok r) = (n : ℕ) × (length slots ≡ 4 * n) × Replays n (edited slots edits) l' r
  Replaying slots edits l l' (Err e) = Refused slots edits l e

  -- The ledger follows the edited table.
  abbrev pub Followed : List ℕ → List Edit → L → L → Result ℕ ReplayError → Type 0
  Followed slots edits l l' (Ok n) = (length slots ≡ 4 * n) × Follows n (edited slots edits) l'
  Followed slots edits l l' (Err e) = Refused slots edits l e

-- What is known of the answers by the table alone. The number of each cell is that of its holders, if one is told.
-- Where the ceiling is at least the number of slots, one is told of every cell. The cells listed as zeros are exactly those with the number 0.
pub record Kept (ceiling : ℕ) (slots : List ℕ) (edits : List Edit) (r : Replayed) : Type 0 where
  pub cells : ℕ
  pub table : length slots ≡ 4 * cells
  pub size : length (vec_items r.numbers) ≡ cells
  pub exact : (c m : ℕ) → Cell cells c → slice_index_or (vec_items r.numbers) (c - 1) None ≡ Some m → m ≡ holders c (edited slots edits)
  pub complete : (c : ℕ) → 4 * cells ≤ ceiling → Cell cells c → slice_index_or (vec_items r.numbers) (c - 1) None ≡ Some (holders c (edited slots edits))
  pub zeros : (c : ℕ) → Has (vec_items r.zeros) c ↔ (Cell cells c × (slice_index_or (vec_items r.numbers) (c - 1) None ≡ Some 0))
