use Rattle.parts.proofs.Growing.{numbered_known}
use Rattle.parts.proofs.drawing.Drawing.number.Goals as goal

pub returns-in-Some : goal.returns-in-Some
returns-in-Some c = numbered_known _ _ _ c.in-Some.ensures
