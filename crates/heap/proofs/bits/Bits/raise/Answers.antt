use Rattle.std.proofs.Common.{◌≡◌, length, sym, arith, rules}
use Rattle.heap.proofs.BitLaws.{raised}
use Rattle.heap.proofs.bits.Bits.raise.Goals as goal

pub returns : goal.returns
returns c =
    let bytes = c.self.inside.bytes in
    let n : length bytes ≡ 128 = search rules in
    rw c.from.ensures (rw (sym c.self.view_is) (raised bytes c.args.c c.requires.0 (omega arith)))
