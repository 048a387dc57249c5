-- Tables of slots: what stands in each slot of a heap, and how often a cell stands there.
use Rattle.std.specs.Prelude.{◌≡◌, ℕ, ◌*◌, ◌≤◌, List, length, count_by, nat_eq, slice_index}

-- A cell of n: 1 to n.
abbrev pub Cell : ℕ → ℕ → Type 0
Cell n c = (1 ≤ c) × (c ≤ n)

-- A table for n cells has 4n slots. Each contains 0, which is empty, or a cell from 1 to n.
pub record Table (n : ℕ) (t : List ℕ) : Type 0 where
  pub size : length t ≡ 4 * n
  pub contents : (s : ℕ) → slice_index t s ≤ n

-- The number of holders of c: the slots that contain it.
abbrev pub holders : ℕ → List ℕ → ℕ
holders c t = count_by (λ x. nat_eq x c) t
