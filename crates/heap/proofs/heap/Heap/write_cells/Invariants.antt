use Rattle.std.proofs.Common.{◌+◌, ◌-◌, ◌≤◌}
use Rattle.heap.specs.Pictures.{cell_rows}
use Rattle.heap.specs.States.{state}
use Rattle.std.specs.Fmt.{IsPlainFormatter, HasWritten}
use Rattle.heap.proofs.heap.Heap.write_cells.Given as goal

abbrev pub invariant-loop-c : goal.invariant-loop-c
invariant-loop-c g l = (l.c ≤ l.self.graph.n + 1) × (IsPlainFormatter l.initial.f → HasWritten g.W.Write.write_str_gives l.initial.f (cell_rows (state l.self) (l.c - 1)) l.f)
