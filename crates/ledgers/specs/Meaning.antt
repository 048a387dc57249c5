-- What a ledger means: its words, and what it promises of them.
use Rattle.std.specs.Prelude.{◌≡◌, ℕ, ◌*◌, ◌<◌, ◌≤◌, ◌≢◌, ◌↔◌, List, length, replicate, Some, None, Option, slice_index, slice_set}
use Rattle.ledgers.specs.Tables.{Table, holders, Cell}

-- The words. A call that changes the ledger is a relation between the ledger before and after it.
pub record Ops (L : Type 0) : Type 1 where
  -- the greatest number that it tells of a cell: one number for the type
  pub ceiling : ℕ
  -- how many cells it has room for
  pub capacity : L → ℕ
  -- its n: the cells of its last clear, 0 before
  pub cells : L → ℕ
  -- how much it has put off
  pub waiting : L → ℕ
  -- what it tells of a cell: a number or nothing
  pub tells : L → ℕ → Option ℕ
  -- the tables with which it agrees
  pub Agrees : L → List ℕ → Type 0
  -- clear for n, accepted
  pub Clears : ℕ → L → L → Type 0
  -- a note of slot, old content, new content
  pub Notes : ℕ → ℕ → ℕ → L → L → Type 0
  pub Settles : L → L → Type 0
  -- recount of a cell to a number
  pub Recounts : ℕ → ℕ → L → L → Type 0

module _ {L : Type 0} (o : Ops L) where
  -- A ledger is settled exactly if its waiting is 0.
  abbrev pub Settled : L → Type 0
  Settled l = o.waiting l ≡ 0

  -- It tells a number of c.
  abbrev pub Told : L → ℕ → Type 0
  Told l c = (m : ℕ) × (o.tells l c ≡ Some m)

  -- A note is in range if its slot and both its contents are.
  abbrev pub InRange : L → ℕ → ℕ → ℕ → Type 0
  InRange l s old new = (s < 4 * o.cells l) × (old ≤ o.cells l) × (new ≤ o.cells l)

  -- What no call but clear changes: n. And what no call at all changes: the capacity.
  pub record SameShape (l l' : L) : Type 0 where
    pub cells : o.cells l' ≡ o.cells l
    pub capacity : o.capacity l' ≡ o.capacity l

  -- After a clear for n: settled, 0 told of each cell, in agreement with the table of empty slots.
  pub record Cleared (n : ℕ) (l l' : L) : Type 0 where
    pub cells : o.cells l' ≡ n
    pub capacity : o.capacity l' ≡ o.capacity l
    pub settled : Settled l'
    pub zeros : (c : ℕ) → Cell n c → o.tells l' c ≡ Some 0
    pub agrees : o.Agrees l' (replicate (4 * n) 0)

  -- Notes that empty slots of a table, one after the other: from the table t and the ledger l to t' and l'.
  pub data Emptied : List ℕ → L → List ℕ → L → Type 0 where
    none : {t : List ℕ} {l : L} → Emptied t l t l
    more : {t t' : List ℕ} {l m l' : L} (s : ℕ) → s < length t → o.Notes s (slice_index t s) 0 l m → Emptied (slice_set t s 0) m t' l' → Emptied t l t' l'

  -- After a recount of c to m: c tells m, or nothing if m is above the ceiling; the others tell what they told.
  pub record Recounted (c m : ℕ) (t : List ℕ) (l l' : L) : Type 0 where
    pub shape : SameShape l l'
    pub settled : Settled l'
    pub agrees : o.Agrees l' t
    pub told : m ≤ o.ceiling → o.tells l' c ≡ Some m
    pub stuck : o.ceiling < m → o.tells l' c ≡ None
    pub others : (d : ℕ) → d ≢ c → o.tells l' d ≡ o.tells l d

-- The promises and the three laws. But for the rule of clear and the bounds, they speak of a ledger that agrees with some table.
pub record Lawful {L : Type 0} (o : Ops L) : Type 0 where
  -- The capacity is at most 1,024, n at most the capacity, waiting at most 65,535.
  pub capacity_bound : (l : L) → o.capacity l ≤ 1024
  pub waiting_bound : (l : L) → o.waiting l ≤ 65535
  pub cells_bound : (l : L) (t : List ℕ) → o.Agrees l t → o.cells l ≤ o.capacity l
  -- What it agrees with is a table for its n.
  pub table : (l : L) (t : List ℕ) → o.Agrees l t → Table (o.cells l) t
  -- Clear, for an n within the capacity and from any state, clears.
  pub clears : (n : ℕ) (l l' : L) → n ≤ o.capacity l → o.Clears n l l' → Cleared o n l l'
  -- A note in range follows each agreed table whose slot contains old: the ledger then agrees with that table with new there.
  pub note_agrees : (s old new : ℕ) (l l' : L) (t : List ℕ) → o.Notes s old new l l' → InRange o l s old new → o.Agrees l t → slice_index t s ≡ old → o.Agrees l' (slice_set t s new)
  pub note_shape : (s old new : ℕ) (l l' : L) (t : List ℕ) → o.Notes s old new l l' → o.Agrees l t → SameShape o l l'
  -- If it was settled before and is after, only what it tells of old and new may change.
  pub note_others : (s old new : ℕ) (l l' : L) (t : List ℕ) → o.Notes s old new l l' → o.Agrees l t → Settled o l → Settled o l' → (c : ℕ) → c ≢ old → c ≢ new → o.tells l' c ≡ o.tells l c
  -- A slot or cell out of range changes nothing.
  pub note_outside : (s old new : ℕ) (l l' : L) (t : List ℕ) → o.Notes s old new l l' → o.Agrees l t → (InRange o l s old new → ⊥) → l' ≡ l
  -- Settle makes it settled, and it agrees with every table with which it agreed.
  pub settle_settles : (l l' : L) (t : List ℕ) → o.Settles l l' → o.Agrees l t → Settled o l'
  pub settle_agrees : (l l' : L) (t : List ℕ) → o.Settles l l' → o.Agrees l t → o.Agrees l' t
  pub settle_shape : (l l' : L) (t : List ℕ) → o.Settles l l' → o.Agrees l t → SameShape o l l'
  -- If it was settled, nothing changes.
  pub settle_rests : (l l' : L) (t : List ℕ) → o.Settles l l' → o.Agrees l t → Settled o l → l' ≡ l
  -- Recount of c to its number of holders in an agreed table.
  pub recounts : (c m : ℕ) (l l' : L) (t : List ℕ) → o.Recounts c m l l' → Settled o l → Cell (o.cells l) c → o.Agrees l t → m ≡ holders c t → Recounted o c m t l l'
  -- On an unsettled ledger, or for a cell out of range, it changes nothing.
  pub recount_outside : (c m : ℕ) (l l' : L) (t : List ℕ) → o.Recounts c m l l' → o.Agrees l t → (Settled o l × Cell (o.cells l) c → ⊥) → l' ≡ l
  -- A number that a settled ledger tells of a cell is that of its holders in every table with which it agrees.
  pub exact : (l : L) (t : List ℕ) (c m : ℕ) → Settled o l → o.Agrees l t → Cell (o.cells l) c → o.tells l c ≡ Some m → m ≡ holders c t
  -- If the ceiling is at least the number of slots, a settled ledger tells a number of every cell.
  pub complete : (l : L) (t : List ℕ) (c : ℕ) → 4 * o.cells l ≤ o.ceiling → Settled o l → o.Agrees l t → Cell (o.cells l) c → Told o l c
  -- From a settled state, notes that empty slots of an agreed table, then settle, leave told exactly the cells that were told.
  pub drained : (l m l' : L) (t t' : List ℕ) → Settled o l → o.Agrees l t → Emptied o t l t' m → o.Settles m l' → (c : ℕ) → Cell (o.cells l) c → Told o l c ↔ Told o l' c
