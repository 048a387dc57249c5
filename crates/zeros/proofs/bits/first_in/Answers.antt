use Rattle.std.proofs.Common.{◌/◌, ◌^◌, ◌<◌, arith, rules}
use Rattle.zeros.proofs.BitLaws.{first_place_none, first_place_some}
use Rattle.zeros.proofs.bits.first_in.Goals as goal

pub returns-then-rest-eq0 : goal.returns-then-rest-eq0
returns-then-rest-eq0 c = first_place_none c.args.word c.args.from (omega arith)

pub returns-else-rest-eq0 : goal.returns-else-rest-eq0
returns-else-rest-eq0 c =
    let some : 0 < c.args.word / 2 ^ c.args.from = omega arith in
    let short : c.args.word / 2 ^ c.args.from < 2 ^ 64 = search rules in
    first_place_some c.args.word c.args.from (omega arith) some short
