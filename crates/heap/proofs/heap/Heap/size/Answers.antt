use Rattle.std.proofs.Common.{Ok, rules}
use Rattle.heap.proofs.Keeping.{size_begins}
use Rattle.heap.specs.States.{state}
use Rattle.heap.proofs.heap.Heap.size.Goals as goal

pub returns-clause-begins : goal.returns-clause-begins
returns-clause-begins g c =
    size_begins _ g.L.Ledger.laws c.args.n (state c.args.self.now) (state c.sized.result) c.args.ledger.now c.clear.new.self (Ok tt) (search rules)
