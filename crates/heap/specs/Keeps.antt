-- What the calls keep: the ledger belongs to the heap, and the heap is well formed.
use Rattle.std.specs.Prelude.{◌≡◌, ℕ, ◌-◌, ◌<◌, ◌≤◌, true, false, ◌⊎◌, length, Ok, Err, Result, slice_index, slice_index_or}
use Rattle.heap.specs.Graph.{Graph, Used, content}
use Rattle.heap.specs.States.{State}
use Rattle.refusals.specs.declared.refusal.Refusal.{Refusal}
use Rattle.ledgers.specs.Meaning.{Ops}

pub record Free (g : Graph) (c : ℕ) : Type 0 where
  pub least : 1 ≤ c
  pub most : c ≤ g.cells
  pub clear : slice_index_or g.used (c - 1) false ≡ false

-- A cell is a suspect where the place c - 1 says so.
pub record Suspect (s : State) (c : ℕ) : Type 0 where
  pub least : 1 ≤ c
  pub set : slice_index_or s.suspects (c - 1) false ≡ true

-- What a slot, a root or a hold may contain: nothing, or a cell in use. A free cell stands in none of them.
abbrev pub Content : Graph → ℕ → Type 0
Content g x = (x ≡ 0) ⊎ Used g x

-- A well-formed heap: each cell is in use or free. A free cell has four empty slots and stands in no slot, root or hold. A suspect is in use.
pub record WellFormed (s : State) : Type 0 where
  pub sized : length s.graph.used ≡ s.graph.cells
  pub empty : (c f : ℕ) → Free s.graph c → f < 4 → content s.graph c f ≡ 0
  pub slots : (i : ℕ) → Content s.graph (slice_index s.graph.slots i)
  pub roots : (r : ℕ) → Content s.graph (slice_index s.graph.roots r)
  pub holds : (k : ℕ) → Content s.graph (slice_index s.graph.holds k)
  pub suspects : (c : ℕ) → Suspect s c → Used s.graph c

module _ {L : Type 0} (o : Ops L) where
  -- The ledger belongs to the heap: it has its n and agrees with its slots.
  pub record Held (s : State) (l : L) : Type 0 where
    pub cells : o.cells l ≡ s.graph.cells
    pub agrees : o.Agrees l s.graph.slots

  -- A heap and ledger that belong together still do after the call, and a well-formed heap still is one.
  abbrev pub Keeps : State → L → State → L → Type 0
  Keeps s l s' l' = (Held s l → Held s' l') × (WellFormed s → WellFormed s')

  -- After an accepted size heap and ledger belong together, and the heap is well formed, whatever they were before.
  abbrev pub Begins : Result (Unit {0}) Refusal → State → L → Type 0
  Begins (Ok _) s l = Held s l × WellFormed s
  Begins (Err _) s l = Unit {0}
