-- What entering a drawing does to a heap.
use Rattle.std.specs.Prelude.{◌≡◌, ℕ, ◌+◌, ◌-◌, ◌*◌, ◌/◌, ◌%◌, ◌<◌, ◌≤◌, min, true, false, cond, ◌≢◌, List, [], ◌∷◌, length, get_or, replicate, Some, None, vec_items, Option, ◌==◌, slice_index, slice_index_or, slice_set}
use Rattle.heap.specs.Calls.{release_checks, root}
use Rattle.heap.specs.Keeps.{Held}
use Rattle.heap.specs.Refusals.{cause_of}
use Rattle.heap.specs.States.{State}
use Rattle.heap.specs.declared.token.Token.{Token}
use Rattle.entry.specs.declared.entering.Entered.{Entered}
use Rattle.ledgers.specs.Meaning.{Ops}
use Rattle.ledgers.specs.Tables.{Cell}
use Rattle.parts.specs.declared.edits.Edit.{Edit}

-- The cell of a part: parts are numbered from 1, and part 0 stands for an empty slot.
abbrev pub cell_of : List ℕ → ℕ → ℕ
cell_of cells part = cond (part == 0) 0 (slice_index cells (part - 1))

-- Cells, slots, holds and use are as they were.
pub record OnlyRoots (s s' : State) : Type 0 where
  pub cells : s'.graph.cells ≡ s.graph.cells
  pub slots : s'.graph.slots ≡ s.graph.slots
  pub holds : s'.graph.holds ≡ s.graph.holds
  pub used : s'.graph.used ≡ s.graph.used

-- So are the roots but r.
pub record OnlyRoot (r : ℕ) (s s' : State) : Type 0 where
  pub kept : OnlyRoots s s'
  pub others : (q : ℕ) → q ≢ r → root s' q ≡ root s q

-- Root r contains the cell of a part, and nothing else changed but what is in that root.
pub record Fetched (cells : List ℕ) (r part : ℕ) (s s' : State) : Type 0 where
  pub only : OnlyRoot r s s'
  pub here : root s' r ≡ cell_of cells part

-- Where slot f of a part lies in the heap.
abbrev pub slot_at : List ℕ → ℕ → ℕ → ℕ
slot_at cells part f = 4 * (cell_of cells part - 1) + f

-- The heap's slots after a store: slot number i of the drawing, which is slot i % 4 of part i / 4 + 1, contains a part.
abbrev pub put_at : List ℕ → List ℕ → ℕ → ℕ → List ℕ
put_at cells t i part = slice_set t (slot_at cells (i / 4 + 1) (i % 4)) (cell_of cells part)

-- The heap's slots after a store for each reference, from slot number i of the drawing on. An empty slot makes none.
abbrev pub referred : List ℕ → ℕ → List ℕ → List ℕ → List ℕ
referred cells i [] t = t
referred cells i (part ∷ parts) t = referred cells (i + 1) parts (cond (part == 0) t (put_at cells t i part))

-- The heap's slots after a store for each edit.
abbrev pub edited : List ℕ → List Edit → List ℕ → List ℕ
edited cells [] t = t
edited cells (e ∷ es) t = edited cells es (put_at cells t e.slot e.content)

-- In a heap of these slots, slot number i of the drawing contains the cell of this part.
pub record Points (cells t : List ℕ) (i part : ℕ) : Type 0 where
  pub within : part ≤ length cells
  pub here : cell_of cells part ≡ slice_index t (slot_at cells (i / 4 + 1) (i % 4))

-- The parts in the first k slots of the drawing.
pub record Pointing (cells t : List ℕ) (k : ℕ) (parts : List ℕ) : Type 0 where
  pub size : length parts ≡ k
  pub each : (i : ℕ) → i < k → Points cells t i (slice_index parts i)

-- The heap has these slots, and no hold and no cell's use changed.
pub record Slotted (t : List ℕ) (s s' : State) : Type 0 where
  pub cells : s'.graph.cells ≡ s.graph.cells
  pub slots : s'.graph.slots ≡ t
  pub holds : s'.graph.holds ≡ s.graph.holds
  pub used : s'.graph.used ≡ s.graph.used

-- A slot that contained x became empty, and nothing else changed but what is in the roots; root 1 is as it was.
pub record Forgot (x : ℕ) (s s' : State) : Type 0 where
  pub slot : ℕ
  pub was : get_or s.graph.slots slot 0 ≡ x
  pub now_empty : Slotted (slice_set s.graph.slots slot 0) s s'
  pub owner : root s' 1 ≡ root s 1

-- The slots that the index has for the first k parts become empty, one after the other.
pub data Forgets (cells : List ℕ) : ℕ → List ℕ → List ℕ → Type 0 where
  none : {t : List ℕ} → Forgets cells 0 t t
  more : {k : ℕ} {t u : List ℕ} → Forgets cells k t u → (i : ℕ) → slice_index u i ≡ cell_of cells (k + 1) → Forgets cells (k + 1) t (slice_set u i 0)

-- The index has forgotten the first k parts.
pub record Forgotten (cells : List ℕ) (k : ℕ) (s s' : State) : Type 0 where
  pub cells_kept : s'.graph.cells ≡ s.graph.cells
  pub slots : Forgets cells k s.graph.slots s'.graph.slots
  pub holds : s'.graph.holds ≡ s.graph.holds
  pub used : s'.graph.used ≡ s.graph.used
  pub owner : root s' 1 ≡ root s 1

-- A token of a hold that contains a cell, and no slot and no cell's use changed. The release of the token is accepted.
pub record HeldBy (t : Token) (c : ℕ) (s s' : State) : Type 0 where
  pub some : 1 ≤ c
  pub cell : t.cell ≡ c
  pub cells : s'.graph.cells ≡ s.graph.cells
  pub slots : s'.graph.slots ≡ s.graph.slots
  pub holds : s'.graph.holds ≡ slice_set s.graph.holds t.hold c
  pub used : s'.graph.used ≡ s.graph.used
  pub accepted : cause_of (release_checks s' t) ≡ None

-- The top part is held, if there is one: a cell of 0 is none.
abbrev pub HoldsTop : Option Token → ℕ → State → State → Type 0
HoldsTop (Some t) c s s' = HeldBy t c s s'
HoldsTop None c s s' = (c ≡ 0) × OnlyRoots s s'

-- The first part, if there is one.
abbrev pub top_part : List ℕ → ℕ
top_part cells = min (length cells) 1

-- The hold of the top part, whose cell is c: its token is accepted by a release. Where there is no such part, no hold is opened.
abbrev pub TopHeld : Option Token → ℕ → List ℕ → State → Type 0
TopHeld (Some t) c holds s = (1 ≤ c) × (t.cell ≡ c) × (s.graph.holds ≡ slice_set holds t.hold c) × (cause_of (release_checks s t) ≡ None)
TopHeld None c holds s = (c ≡ 0) × (s.graph.holds ≡ holds)

-- The token is accepted by a release.
abbrev pub Accepted : Option Token → State → Type 0
Accepted (Some t) s = cause_of (release_checks s t) ≡ None
Accepted None s = Unit {0}

-- The index has forgotten every part, and the top part is held.
pub record Closed (cells : List ℕ) (token : Option Token) (s s' : State) : Type 0 where
  pub cells_kept : s'.graph.cells ≡ s.graph.cells
  pub slots : Forgets cells (length cells) s.graph.slots s'.graph.slots
  pub used : s'.graph.used ≡ s.graph.used
  pub top : TopHeld token (cell_of cells (top_part cells)) s.graph.holds s'

-- A cell is in use.
abbrev pub in_use : State → ℕ → Type 0
in_use s c = slice_index_or s.graph.used (c - 1) false ≡ true

-- No hold changed, and no cell that was in use was freed.
pub record Grown (s s' : State) : Type 0 where
  pub cells : s'.graph.cells ≡ s.graph.cells
  pub holds : s'.graph.holds ≡ s.graph.holds
  pub used : (c : ℕ) → in_use s c → in_use s' c

-- A part got a cell that was free.
pub record Added (c : ℕ) (s s' : State) : Type 0 where
  pub grown : Grown s s'
  pub least : 1 ≤ c
  pub most : c ≤ s.graph.cells
  pub free : in_use s c → ⊥
  pub used : in_use s' c

-- Each part has a cell of its own, which is in use.
pub record Own (cells : List ℕ) (s : State) : Type 0 where
  pub used : (i : ℕ) → i < length cells → Cell s.graph.cells (slice_index cells i) × in_use s (slice_index cells i)
  pub apart : (i j : ℕ) → i < j → j < length cells → slice_index cells i ≢ slice_index cells j

module _ {L : Type 0} (o : Ops L) where
  -- Heap and ledger stay together.
  abbrev pub Together : State → L → State → L → Type 0
  Together s l s' l' = Held o s l → Held o s' l'

  -- After a drawing of these slots and edits: each part has a cell of its own, and the heap contains what a store for each reference and each edit leaves of the index's slots. No hold is open.
  pub record Drawn (slots : List ℕ) (edits : List Edit) (cells : List ℕ) (s : State) (l : L) : Type 0 where
    pub size : length slots ≡ 4 * length cells
    pub own : Own cells s
    pub indexed : List ℕ
    pub slots_stored : s.graph.slots ≡ edited cells edits (referred cells 0 slots indexed)
    pub holds : s.graph.holds ≡ replicate 16 0
    pub held : Held o s l

  -- A drawing of these slots and edits was entered: the heap contained what a store for each reference and each edit left of the index's slots, and that is what the parts were read from.
  -- Then the index forgot every part, and the top part was held. Heap and ledger belong together.
  pub record Entering (slots : List ℕ) (edits : List Edit) (e : Entered) (s : State) (l : L) : Type 0 where
    pub size : length slots ≡ 4 * length (vec_items e.cells)
    pub own : Own (vec_items e.cells) s
    pub stored : List ℕ
    pub indexed : List ℕ
    pub stores : stored ≡ edited (vec_items e.cells) edits (referred (vec_items e.cells) 0 slots indexed)
    pub pointing : Pointing (vec_items e.cells) stored (4 * length (vec_items e.cells)) (vec_items e.slots)
    pub forgets : Forgets (vec_items e.cells) (length (vec_items e.cells)) stored s.graph.slots
    pub top : TopHeld e.token (cell_of (vec_items e.cells) (top_part (vec_items e.cells))) (replicate 16 0) s
    pub held : Held o s l
