-- What can be read of a heap.
use Rattle.std.specs.Prelude.{ℕ, ◌-◌, Bool, false, cond, ◌&&◌, Some, None, count_by, Option, nat_le, nat_lt, slice_index, slice_index_or}
use Rattle.heap.specs.Graph.{content}
use Rattle.heap.specs.States.{State}

abbrev pub is_cell : State → ℕ → Bool
is_cell s c = nat_lt 0 c && nat_le c s.graph.cells

abbrev pub look_root : State → ℕ → Option ℕ
look_root s r = cond (nat_lt r 16) (Some (slice_index s.graph.roots r)) None

abbrev pub look_slot : State → ℕ → ℕ → Option ℕ
look_slot s c f = cond (is_cell s c && nat_lt f 4) (Some (content s.graph c f)) None

abbrev pub look_used : State → ℕ → Option Bool
look_used s c = cond (is_cell s c) (Some (slice_index_or s.graph.used (c - 1) false)) None

abbrev pub look_suspect : State → ℕ → Option Bool
look_suspect s c = cond (is_cell s c) (Some (slice_index_or s.suspects (c - 1) false)) None

abbrev pub live_cells : State → ℕ
live_cells s = count_by (λ b. b) s.graph.used
