use Rattle.stacks.proofs.Standing.{every_stack_stands}
use Rattle.stacks.proofs.theorem.stack_ceiling.Goals as goal

pub returns : goal.returns
returns g c = record { ceiling = c.top.ensures; stands = every_stack_stands g.L.Ledger.ops g.L.Ledger.laws }
