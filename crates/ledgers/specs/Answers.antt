-- What the calls of a ledger answer.
use Rattle.std.specs.Prelude.{◌≡◌, ℕ, ◌<◌, ◌≤◌, ◌≢◌, List, Some, None, Ok, Err, Option, Result}
use Rattle.ledgers.specs.Meaning.{Ops, Settled}
use Rattle.ledgers.specs.Tables.{Cell}
use Rattle.ledgers.specs.declared.ledger.TooManyCells.{TooManyCells}

module _ {L : Type 0} (o : Ops L) where
  -- Clear is refused exactly if n exceeds the capacity, and then changes nothing.
  abbrev pub Clearing : ℕ → L → L → Result (Unit {0}) TooManyCells → Type 0
  Clearing n l l' (Ok _) = (n ≤ o.capacity l) × o.Clears n l l'
  Clearing n l l' (Err _) = (o.capacity l < n) × (l' ≡ l)

  -- Number answers what a settled ledger tells of a cell, and nothing if it is unsettled or c is no cell.
  pub record Numbered (l : L) (c : ℕ) (r : Option ℕ) : Type 0 where
    pub told : Settled o l → Cell (o.cells l) c → r ≡ o.tells l c
    pub none : (Settled o l × Cell (o.cells l) c → ⊥) → r ≡ None

  -- From c on, d is the first cell of which a settled ledger tells 0.
  pub record IsFirstZero (l : L) (c d : ℕ) : Type 0 where
    pub settled : Settled o l
    pub cell : Cell (o.cells l) d
    pub from : c ≤ d
    pub zero_told : o.tells l d ≡ Some 0
    pub first : (e : ℕ) → Cell (o.cells l) e → c ≤ e → e < d → o.tells l e ≢ Some 0

  -- Next zero answers the least cell from c to n of which a settled ledger tells 0, and otherwise nothing.
  abbrev pub NextZero : L → ℕ → Option ℕ → Type 0
  NextZero l c (Some d) = IsFirstZero l c d
  NextZero l c None = Settled o l → (e : ℕ) → Cell (o.cells l) e → c ≤ e → o.tells l e ≢ Some 0

  -- What is answered of a ledger that agrees with some table.
  abbrev pub OfAgreeing : L → Type 0 → Type 0
  OfAgreeing l P = (t : List ℕ) → o.Agrees l t → P
