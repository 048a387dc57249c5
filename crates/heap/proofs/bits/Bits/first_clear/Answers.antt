use Rattle.std.proofs.Common.{◌≡◌, true, false, refl, rules}
use Rattle.std.proofs.lemmas.Iterator.{first_from_find, YieldsList-from_range}
use borrow.Author.Tests.{tests}
use Rattle.heap.proofs.Searches.{found_clear}
use Rattle.heap.specs.Bits.{is_set}
use Rattle.heap.proofs.bits.Bits.first_clear.Goals as goal

pub returns : goal.returns
returns c =
    let m = c.args.self.now in
    let from = c.args.from in
    let end = c.args.end in
    found_clear m from end c.find.result
    (first_from_find _ _ _ (λ d. is_set m d ≡ false) (λ d. is_set m d ≡ true) c.find.ensures.ran (YieldsList-from_range from end _ refl refl) (λ x q k. search (rules, tests)) (λ x q k. search (rules, tests)))
