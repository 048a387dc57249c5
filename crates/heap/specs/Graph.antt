-- The plain graph: cells, slots, roots and holds; paths; reached.
use Rattle.std.specs.Prelude.{◌≡◌, ℕ, ◌+◌, ◌-◌, ◌*◌, ◌<◌, ◌≤◌, Bool, true, false, List, ◌≢◌, slice_index, slice_index_or}

-- n cells, 1 to n. The slot f of the cell c has the number 4 (c - 1) + f. A slot, a root or a hold contains 0 or a cell.
pub record Graph : Type 0 where
  pub cells : ℕ
  pub slots : List ℕ
  pub roots : List ℕ
  pub holds : List ℕ
  -- the cell c is in use where the place c - 1 says so
  pub used : List Bool

-- What a slot of a cell contains.
abbrev pub content : Graph → ℕ → ℕ → ℕ
content g c f = slice_index g.slots (4 * (c - 1) + f)

pub record Used (g : Graph) (c : ℕ) : Type 0 where
  pub least : 1 ≤ c
  pub most : c ≤ g.cells
  pub set : slice_index_or g.used (c - 1) false ≡ true

-- In no root and no hold.
pub record Loose (g : Graph) (c : ℕ) : Type 0 where
  pub roots : (r : ℕ) → slice_index g.roots r ≢ c
  pub holds : (k : ℕ) → slice_index g.holds k ≢ c

-- A cell is reached when a path leads to it: from a root or a hold to the cell in it, from a cell to each cell in its slots.
pub data Reached (g : Graph) : ℕ → Type 0 where
  by_root : {c : ℕ} (r : ℕ) → slice_index g.roots r ≡ c → 1 ≤ c → Reached g c
  by_hold : {c : ℕ} (k : ℕ) → slice_index g.holds k ≡ c → 1 ≤ c → Reached g c
  by_slot : {d c : ℕ} → Reached g d → (f : ℕ) → f < 4 → content g d f ≡ c → 1 ≤ c → Reached g c

-- A path of slots from one cell to another, the empty one included.
pub data SlotPath (g : Graph) : ℕ → ℕ → Type 0 where
  here : {c : ℕ} → SlotPath g c c
  along : {a d c : ℕ} → SlotPath g a d → (f : ℕ) → f < 4 → content g d f ≡ c → 1 ≤ c → SlotPath g a c
