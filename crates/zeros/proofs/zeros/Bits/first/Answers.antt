use Rattle.std.proofs.Common.{arith}
use Rattle.zeros.proofs.BitLaws.{first_none, first_some}
use Rattle.zeros.proofs.zeros.Bits.first.Goals as goal

pub returns-in-Some : goal.returns-in-Some
returns-in-Some c =
    first_some c.args.self.now c.args.c c.loop-i.i c.saturating_sub-skip.result c.in-Some.place
    (omega arith) (omega arith) (omega arith) c.loop-i.invariant c.in-Some.ensures

pub loop-i-preserved : goal.loop-i-preserved
loop-i-preserved c =
    first_none c.args.self.now c.args.c c.loop-i.i c.saturating_sub-skip.result (omega arith) c.loop-i.invariant c.in_default.ensures
