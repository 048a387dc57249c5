-- The coalescing log: a ledger that keeps, of each slot that changed, its first and its latest content, over another ledger.
use Rattle.std.specs.Prelude.{◌≡◌, ℕ, ◌+◌, ◌*◌, ◌<◌, ◌≤◌, min, ◌≢◌, List, [], ◌∷◌, ◌++◌, length, take, Some, None, Option, slice_index, slice_index_or, slice_set}
use Rattle.coalescing.specs.declared.log.Entries.{Entries}
use Rattle.coalescing.specs.declared.log.Entry.{Entry}
use Rattle.coalescing.specs.declared.log.Log.{Log}
use Rattle.ledgers.specs.Meaning.{Ops}
use Rattle.ledgers.specs.Tables.{Table}
use Rattle.std.specs.List.{AllByRecursion}

-- An entry by its parts.
abbrev pub entry_of : ℕ → ℕ → ℕ → Entry
entry_of s first latest = record { slot = s; first = first; latest = latest }

-- What a list of entries reads as past its end.
abbrev pub no_entry : Entry
no_entry = entry_of 0 0 0

-- How many entries there are: at most 64.
abbrev pub size : Entries → ℕ
size e = min e.len 64

-- The entries, in order of entry.
abbrev pub entries : Entries → List Entry
entries e = take (size e) e.at

-- The log with no entries: its length is 0, and what lies past that does not matter.
abbrev pub emptied : Entries → Entries
emptied e = record { at = e.at; len = 0; index = e.index }

-- No entry names the slot s.
abbrev pub Unlogged : ℕ → List Entry → Type 0
Unlogged s es = AllByRecursion (λ e. e.slot ≢ s) es

-- No two entries name the same slot.
abbrev pub OneASlot : List Entry → Type 0
OneASlot [] = Unit {0}
OneASlot (e ∷ es) = Unlogged e.slot es × OneASlot es

-- At most 64 entries, one a slot, and the index of an entry's slot points back at it.
pub record WellFormed (e : Entries) : Type 0 where
  pub few : e.len ≤ 64
  pub one_a_slot : OneASlot (entries e)
  pub indexed : (k : ℕ) → k < length (entries e) → slice_index e.index (slice_index_or (entries e) k no_entry).slot ≡ k

-- The entry at place k is of slot s.
abbrev pub Logged : ℕ → ℕ → List Entry → Type 0
Logged k s es = (k < length es) × ((slice_index_or es k no_entry).slot ≡ s)

-- A search for a slot answers its place, or nothing if no entry names it.
abbrev pub Found : Entries → ℕ → Option ℕ → Type 0
Found e s (Some k) = Logged k s (entries e)
Found e s None = WellFormed e → Unlogged s (entries e)

-- The entries with the latest content of the one at place k changed alone.
abbrev pub with_latest : ℕ → ℕ → List Entry → List Entry
with_latest k new es = slice_set es k (entry_of (slice_index_or es k no_entry).slot (slice_index_or es k no_entry).first new)

-- The same of the log itself.
abbrev pub renewed : ℕ → ℕ → Entries → Entries
renewed k new e = record { at = with_latest k new e.at; len = e.len; index = e.index }

-- The table with the first contents put back.
abbrev pub put_back : List Entry → List ℕ → List ℕ
put_back [] t = t
put_back (e ∷ es) t = slice_set (put_back es t) e.slot e.first

-- The notes that the log takes, for n cells: slot and cells in range. A slot of 4,096 or more counts as out of range.
abbrev pub Takes : ℕ → ℕ → ℕ → ℕ → Type 0
Takes n s old new = (s < 4096) × (s < 4 * n) × (old ≤ n) × (new ≤ n)

-- The slot contains the entry's latest content, and all is in range for n cells.
pub record Stands (n : ℕ) (t : List ℕ) (e : Entry) : Type 0 where
  pub slot_in : e.slot < 4 * n
  pub first_in : e.first ≤ n
  pub latest_in : e.latest ≤ n
  pub contains : slice_index_or t e.slot 0 ≡ e.latest

module _ {L : Type 0} (o : Ops L) where
  -- An entry goes down as one note from first to latest, or not at all if these are equal.
  pub record Sent (e : Entry) (l l' : L) : Type 0 where
    pub same : e.first ≡ e.latest → l' ≡ l
    pub noted : e.first ≢ e.latest → o.Notes e.slot e.first e.latest l l'

  -- The entries went down in order, from the ledger l to l'.
  abbrev pub Passed : List Entry → L → L → Type 0
  Passed [] l l' = l' ≡ l
  Passed (e ∷ es) l l' = (m : L) × Sent e l m × Passed es m l'

  -- The log agrees with a table that has every latest content in its slot, if the ledger below agrees with it once the first contents are put back.
  pub record LogAgrees (g : Log L) (t : List ℕ) : Type 0 where
    pub formed : WellFormed g.inner
    pub table : Table (o.cells g.below) t
    pub stand : AllByRecursion (Stands (o.cells g.below) t) (entries g.inner)
    pub below : o.Agrees g.below (put_back (entries g.inner) t)

  -- An entry comes in last. If 64 are there, all go down first.
  pub record Added (e : Entry) (g g' : Log L) : Type 0 where
    pub room : size g.inner < 64 → (entries g'.inner ≡ entries g.inner ++ e ∷ []) × (g'.below ≡ g.below)
    pub full : size g.inner ≡ 64 → (entries g'.inner ≡ e ∷ []) × Passed (entries g.inner) g.below g'.below

  -- A note on a slot already logged changes that entry's latest content alone. One on another slot adds an entry.
  pub data Coalesced (s old new : ℕ) (g g' : Log L) : Type 0 where
    again : (k : ℕ) → Logged k s (entries g.inner) → entries g'.inner ≡ with_latest k new (entries g.inner) → g'.below ≡ g.below → Coalesced s old new g g'
    other : Unlogged s (entries g.inner) → Added (entry_of s old new) g g' → Coalesced s old new g g'

  -- A note that is taken is coalesced and leaves the log well-formed. Any other changes nothing.
  pub record LogNotes (s old new : ℕ) (g g' : Log L) : Type 0 where
    pub taken : Takes (o.cells g.below) s old new → WellFormed g.inner → Coalesced s old new g g' × WellFormed g'.inner
    pub outside : (Takes (o.cells g.below) s old new → ⊥) → g' ≡ g

  -- Clear clears the ledger below and empties the log.
  pub record LogClears (n : ℕ) (g g' : Log L) : Type 0 where
    pub below : o.Clears n g.below g'.below
    pub none : g'.inner ≡ emptied g.inner

  -- Settle passes the entries down, then settles below.
  pub record LogSettles (g g' : Log L) : Type 0 where
    pub between : L
    pub passed : Passed (entries g.inner) g.below between
    pub settles : o.Settles between g'.below
    pub none : g'.inner ≡ emptied g.inner

  -- The entries and the waiting below, held at 65,535.
  abbrev pub log_waiting : Log L → ℕ
  log_waiting g = min (size g.inner + o.waiting g.below) 65535

  -- Recount of a settled log is passed below. On an unsettled one it changes nothing.
  pub record LogRecounts (c m : ℕ) (g g' : Log L) : Type 0 where
    pub settled : log_waiting g ≡ 0 → o.Recounts c m g.below g'.below × (g'.inner ≡ g.inner)
    pub unsettled : 0 < log_waiting g → g' ≡ g

  -- Its ceiling, its n and what it tells are those of the ledger below. Its capacity is the lesser of 1,024 and that below.
  abbrev pub log_ops : Ops (Log L)
  log_ops = record {
    ceiling = o.ceiling;
    capacity = λ g. min (o.capacity g.below) 1024;
    cells = λ g. o.cells g.below;
    waiting = log_waiting;
    tells = λ g c. o.tells g.below c;
    Agrees = LogAgrees;
    Clears = LogClears;
    Notes = LogNotes;
    Settles = LogSettles;
    Recounts = LogRecounts;
  }
