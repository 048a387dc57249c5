-- The heap as the calls speak of it, and how its tables are read so.
use Rattle.std.specs.Prelude.{ℕ, ◌*◌, Bool, false, List, take, replicate}
use Rattle.heap.specs.Bits.{flags}
use Rattle.heap.specs.Graph.{Graph}
use Rattle.heap.specs.declared.graph.Graph.{Graph as Tables}
use Rattle.heap.specs.declared.heap.Heap.{Heap}

-- The heap: its graph, the suspects (the cell c at the place c - 1), and the last cell given out.
pub record State : Type 0 where
  pub graph : Graph
  pub suspects : List Bool
  pub last : ℕ

abbrev pub view : Tables → State
view t = record {
  graph = record { cells = t.n; slots = take (4 * t.n) t.slots; roots = t.roots; holds = t.holds; used = flags t.n t.used };
  suspects = flags t.n t.suspects;
  last = t.last;
}

abbrev pub state : Heap → State
state h = view h.graph

-- After sizing: n free cells, and nothing in any slot, root or hold. A heap that isn't sized has no cells.
abbrev pub sized : ℕ → State
sized n = record {
  graph = record { cells = n; slots = replicate (4 * n) 0; roots = replicate 16 0; holds = replicate 16 0; used = replicate n false };
  suspects = replicate n false;
  last = 0;
}
