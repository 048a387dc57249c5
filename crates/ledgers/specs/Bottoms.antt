-- The bottom ledger: one count a cell. It goes by views of a ledger: its n, and what its counts tell.
use Rattle.std.specs.Prelude.{◌≡◌, ℕ, ◌+◌, ◌-◌, ◌*◌, ◌<◌, ◌≤◌, min, ◌≢◌, List, ◌∷◌, ◌++◌, map, length, drop, replicate, Some, None, Option, slice_index_or, slice_set}
use Rattle.counts.specs.Counting.{raised, lowered, set_to}
use Rattle.ledgers.specs.Meaning.{Ops}
use Rattle.ledgers.specs.Tables.{Table, holders, Cell}

-- What counts tell: of cell c at place c, and nothing at place 0, which is no cell.
abbrev pub Counts : Type 0
Counts = List (Option ℕ)

-- The counts in a memory of rows.
abbrev pub counts_of : {R : Type 0} → (R → Option ℕ) → List R → Counts
counts_of reads rows = None ∷ map reads rows

-- The capacity is the memory's length, at most 1,024.
abbrev pub room : Counts → ℕ
room counts = min 1024 (length counts - 1)

-- Of a cell with h holders a told count agrees with its number only.
-- A stuck count agrees with any number if the ceiling is below the number of slots, else with none.
abbrev pub Right : ℕ → ℕ → Option ℕ → ℕ → Type 0
Right ceiling n (Some m) h = m ≡ h
Right ceiling n None h = ceiling < 4 * n

-- The first n cells are told 0; the memory past them keeps its counts.
abbrev pub cleared : ℕ → Counts → Counts
cleared n counts = None ∷ (replicate n (Some 0) ++ drop (n + 1) counts)

-- The count of cell c is changed by f, and no other.
abbrev pub changed : (Option ℕ → Option ℕ) → ℕ → Counts → Counts
changed f c counts = slice_set counts c (f (slice_index_or counts c None))

abbrev pub less : ℕ → Counts → Counts
less = changed lowered

abbrev pub more : ℕ → ℕ → Counts → Counts
more ceiling = changed (raised ceiling)

-- A note moves a reference: old goes down, then new goes up. Place 0 stays at nothing.
abbrev pub moved : ℕ → ℕ → ℕ → Counts → Counts
moved ceiling old new counts = more ceiling new (less old counts)

abbrev pub IsInRange : ℕ → ℕ → ℕ → ℕ → Type 0
IsInRange n s old new = (s < 4 * n) × (old ≤ n) × (new ≤ n)

module _ {L : Type 0} (ceiling : ℕ) (size : L → ℕ) (view : L → Counts) where
  pub record BottomAgrees (l : L) (t : List ℕ) : Type 0 where
    pub fits : size l ≤ room (view l)
    pub table : Table (size l) t
    pub right : (c : ℕ) → Cell (size l) c → Right ceiling (size l) (slice_index_or (view l) c None) (holders c t)

  -- Its n is as it was, and its counts are these.
  pub record Becomes (counts : Counts) (l l' : L) : Type 0 where
    pub cells : size l' ≡ size l
    pub counts_are : view l' ≡ counts

  pub record BottomClears (n : ℕ) (l l' : L) : Type 0 where
    pub cells : size l' ≡ n
    pub counts_are : view l' ≡ cleared n (view l)

  -- A note with old equal to new changes nothing, nor does one out of range.
  pub record BottomNotes (s old new : ℕ) (l l' : L) : Type 0 where
    pub moves : IsInRange (size l) s old new → old ≢ new → Becomes (moved ceiling old new (view l)) l l'
    pub same : old ≡ new → l' ≡ l
    pub outside : (IsInRange (size l) s old new → ⊥) → l' ≡ l

  pub record BottomRecounts (c m : ℕ) (l l' : L) : Type 0 where
    pub sets : Cell (size l) c → Becomes (slice_set (view l) c (set_to ceiling m)) l l'
    pub outside : (Cell (size l) c → ⊥) → l' ≡ l

  -- It puts nothing off, so it is always settled, and settle changes nothing.
  abbrev pub bottom_ops : Ops L
  bottom_ops = record {
    ceiling = ceiling;
    capacity = λ l. room (view l);
    cells = size;
    waiting = λ _. 0;
    tells = λ l c. slice_index_or (view l) c None;
    Agrees = BottomAgrees;
    Clears = BottomClears;
    Notes = BottomNotes;
    Settles = λ l l'. l' ≡ l;
    Recounts = BottomRecounts;
  }
