use Rattle.std.proofs.Common.{◌+◌, sym, ◌∙◌, rules, arith}
use Rattle.std.proofs.lemmas.Iterator.{YieldsList-from_range}
use Rattle.std.proofs.lemmas.Iterator.Consumers.{YieldsList-from_filter, count_from_yields_List}
use Rattle.std.proofs.lemmas.List.Sums.{length-filter}
use borrow.Author.Tests.{tests}
use Rattle.heap.proofs.Flags.{count_flags}
use Rattle.heap.specs.Bits.{is_set}
use Rattle.heap.proofs.bits.Bits.count.Goals as goal

pub returns : goal.returns
returns c =
    let n = c.args.n in
    let m = c.args.self.now in
    count_from_yields_List _ _ c.count.ensures.ran (YieldsList-from_filter _ (is_set m) (YieldsList-from_range 1 (n + 1) n (cc) (omega arith)) c.filter.ensures.closure (λ x r q k. search (rules, tests)))
    ∙ length-filter (is_set m) _ ∙ sym (count_flags n m)
