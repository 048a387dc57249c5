use Rattle.std.proofs.Common.{◌-◌, ◌/◌, ◌<◌, length, refl, arith, rules}
use Rattle.zeros.proofs.BitLaws.{lowered, raised}
use Rattle.zeros.proofs.zeros.Bits.put.Goals as goal

pub returns-then-on : goal.returns-then-on
returns-then-on c =
    let ws = c.args.self.now.words in
    let within : (c.args.c - 1) / 64 < length ws = search rules in
    raised ws c.args.c _ c.args.on (omega arith) within c.if-on.true refl

pub returns-else-on : goal.returns-else-on
returns-else-on c =
    let ws = c.args.self.now.words in
    let within : (c.args.c - 1) / 64 < length ws = search rules in
    lowered ws c.args.c _ c.args.on (omega arith) within c.if-on.false refl
