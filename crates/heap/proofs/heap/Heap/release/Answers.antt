use Rattle.std.proofs.Common.{Ok, rules}
use Rattle.heap.proofs.Keeping.{release_keeps}
use Rattle.heap.proofs.heap.Heap.release.Goals as goal

pub returns-clause-keeps : goal.returns-clause-keeps
returns-clause-keeps g c = release_keeps _ c.args.token _ _ _ _ (Ok tt) (search rules)
