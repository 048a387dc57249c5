use Rattle.std.proofs.Common.{rules}
use Rattle.heap.proofs.Views.{view_given}
use Rattle.heap.proofs.heap.Heap.give.Goals as goal

pub returns : goal.returns
returns c = view_given c.args.self.now.graph c.args.c c.raise.new.self (search rules) (search rules) c.raise.ensures
