use Rattle.std.proofs.Common.{sym, arith}
use Rattle.heap.proofs.BitLaws.{test_bit}
use Rattle.heap.proofs.bits.Bits.test.Goals as goal

pub returns : goal.returns
returns c = rw c.from.ensures (rw (sym c.self.view_is) (test_bit _ _ (omega arith)))
