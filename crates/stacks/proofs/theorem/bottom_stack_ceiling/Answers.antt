use Rattle.ledgers.specs.BottomLaws.{bottom_lawful}
use Rattle.stacks.proofs.Standing.{every_stack_stands}
use Rattle.stacks.proofs.theorem.bottom_stack_ceiling.Goals as goal

pub returns : goal.returns
returns g c = record { ceiling = c.top.ensures; stands = every_stack_stands _ (bottom_lawful c.top.result _ _) }
