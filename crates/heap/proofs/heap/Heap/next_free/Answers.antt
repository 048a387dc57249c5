use Rattle.std.proofs.Common.{rules}
use Rattle.heap.proofs.Searches.{found}
use Rattle.heap.proofs.heap.Heap.next_free.Goals as goal

pub returns : goal.returns
returns c = found c.args.self.now.graph c.min.result c.min.ensures c.first_clear.result c.first_clear.ensures c.or_else.result (search rules)
