use Rattle.std.proofs.Common.{Ok, rules}
use Rattle.heap.proofs.Keeping.{new_keeps}
use Rattle.heap.proofs.heap.Heap.new_cell.Goals as goal

pub returns-clause-keeps : goal.returns-clause-keeps
returns-clause-keeps g c = new_keeps _ c.args.r _ _ _ _ (Ok c.in_ok-cell.cell) (search rules)
