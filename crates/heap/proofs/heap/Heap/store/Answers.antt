use Rattle.std.proofs.Common.{Ok, rules}
use Rattle.heap.proofs.Keeping.{store_keeps}
use Rattle.heap.proofs.heap.Heap.store.Goals as goal

pub returns-then-old-new-clause-keeps : goal.returns-then-old-new-clause-keeps
returns-then-old-new-clause-keeps g c = store_keeps _ g.L.Ledger.laws c.args.r c.args.f c.args.s _ _ _ _ (Ok tt) c.args.self.now.roots (search rules)

-- A slot that contains it already.
