use Rattle.zeros.proofs.BitLaws.{blank}
use Rattle.zeros.proofs.zeros.Bits.new.Goals as goal

pub returns : goal.returns
returns c = blank
