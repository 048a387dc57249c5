use Rattle.std.proofs.Common.{refl}
use Rattle.counts.specs.Counting.{lowered}
use Rattle.ledgers.proofs.rows.lower.Goals as goal

pub returns : goal.returns
returns g c = c.change.ensures lowered (λ _. refl) (λ k k' step. step)
