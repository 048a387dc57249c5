use Rattle.ledgers.specs.BottomLaws.{bottom_lawful}
use Rattle.ledgers.proofs.theorem.bottom_ceiling.Goals as goal

pub returns : goal.returns
returns g c = record { ceiling = c.top.ensures; lawful = bottom_lawful c.top.result _ _ }
