use Rattle.std.proofs.Common.{refl}
use Rattle.counts.specs.Counting.{raised}
use Rattle.ledgers.proofs.rows.raise.Goals as goal

pub returns : goal.returns
returns g c = c.change.ensures (raised g.K.Count.ceiling) (λ _. refl) (λ k k' step. step)
