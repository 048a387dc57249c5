-- The transaction queue over another ledger.
use Rattle.std.specs.Prelude.{◌≡◌, ℕ, ◌+◌, ◌<◌, ◌≤◌, min, List, [], ◌∷◌, ◌++◌, reverse, take, ◌≢◌, slice_index, slice_set}
use Rattle.ledgers.specs.Meaning.{Ops, InRange}
use Rattle.queue.specs.declared.queue.Note.{Note}
use Rattle.queue.specs.declared.queue.Notes.{Notes}
use Rattle.queue.specs.declared.queue.Queue.{Queue}
use Rattle.std.specs.List.{AllByRecursion}

-- How many notes wait.
abbrev pub held : Notes → ℕ
held inner = min inner.len 64

-- The notes that wait, the oldest first.
abbrev pub waiting_notes : Notes → List Note
waiting_notes inner = take (held inner) inner.at

-- The same memory, with no note waiting.
abbrev pub emptied : Notes → Notes
emptied inner = record { at = inner.at; len = 0 }

abbrev pub note_of : ℕ → ℕ → ℕ → Note
note_of s old new = record { slot = s; old = old; new = new }

-- Undoing notes, newest first and each from its new content, turns t into t₀. The list has the newest first.
abbrev pub Undone : List Note → List ℕ → List ℕ → Type 0
Undone [] t t₀ = t₀ ≡ t
Undone (n ∷ older) t t₀ = (slice_index t n.slot ≡ n.new) × Undone older (slice_set t n.slot n.old) t₀

module _ {L : Type 0} (o : Ops L) where
  -- Notes went down in order, the oldest first, and made l' of l. The list has the newest first.
  abbrev pub Passed : List Note → L → L → Type 0
  Passed [] l l' = l' ≡ l
  Passed (n ∷ older) l l' = (m : L) × Passed older l m × o.Notes n.slot n.old n.new m l'

  -- A queue agrees with a table if undoing its notes, newest first and each from its new content, gives one with which the ledger below agrees.
  pub record QueueAgrees (q : Queue L) (t : List ℕ) : Type 0 where
    pub few : q.inner.len ≤ 64
    pub ranges : AllByRecursion (λ n. InRange o q.below n.slot n.old n.new) (reverse (waiting_notes q.inner))
    pub under : List ℕ
    pub undone : Undone (reverse (waiting_notes q.inner)) t under
    pub agrees : o.Agrees q.below under

  -- It is cleared with the ledger below, and no note waits.
  pub record QueueClears (n : ℕ) (q q' : Queue L) : Type 0 where
    pub below : o.Clears n q.below q'.below
    pub inner : q'.inner ≡ emptied q.inner

  -- A note in range is put at the end. If 64 wait already, all go down in order first.
  pub record QueueNotes (s old new : ℕ) (q q' : Queue L) : Type 0 where
    pub outside : (InRange o q.below s old new → ⊥) → q' ≡ q
    pub few : InRange o q.below s old new → q'.inner.len ≤ 64
    pub joins : InRange o q.below s old new → held q.inner < 64 → (q'.below ≡ q.below) × (waiting_notes q'.inner ≡ waiting_notes q.inner ++ note_of s old new ∷ [])
    pub starts : InRange o q.below s old new → held q.inner ≡ 64 → Passed (reverse (waiting_notes q.inner)) q.below q'.below × (waiting_notes q'.inner ≡ note_of s old new ∷ [])

  -- All notes go down in order; then the ledger below is settled.
  pub record QueueSettles (q q' : Queue L) : Type 0 where
    pub between : L
    pub passed : Passed (reverse (waiting_notes q.inner)) q.below between
    pub below : o.Settles between q'.below
    pub inner : q'.inner ≡ emptied q.inner

  abbrev pub queue_waiting : Queue L → ℕ
  queue_waiting q = min 65535 (held q.inner + o.waiting q.below)

  -- Recount is for a settled queue alone, and goes down.
  pub record QueueRecounts (c m : ℕ) (q q' : Queue L) : Type 0 where
    pub goes_down : queue_waiting q ≡ 0 → o.Recounts c m q.below q'.below × (q'.inner ≡ q.inner)
    pub unsettled : (queue_waiting q ≢ 0) → q' ≡ q

  abbrev pub queue_ops : Ops (Queue L)
  queue_ops = record {
    ceiling = o.ceiling;
    capacity = λ q. min 1024 (o.capacity q.below);
    cells = λ q. o.cells q.below;
    waiting = queue_waiting;
    tells = λ q c. o.tells q.below c;
    Agrees = QueueAgrees;
    Clears = QueueClears;
    Notes = QueueNotes;
    Settles = QueueSettles;
    Recounts = QueueRecounts;
  }
