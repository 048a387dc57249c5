use Rattle.std.proofs.Common.{◌≡◌, ◌≢◌, rules}
use Rattle.std.proofs.lemmas.Iterator.{IsFirst-from_position, YieldsList-from_slice}
use borrow.Author.Tests.{tests}
use Rattle.heap.proofs.Searches.{found_hold}
use Rattle.heap.proofs.heap.Heap.empty_hold.Goals as goal

pub returns : goal.returns
returns c =
    let s = c.args.self.now.graph in
    found_hold s (search rules) c.position.result
    (IsFirst-from_position _ _ _ (λ x. x ≡ 0) (λ x. x ≢ 0) c.position.ensures.ran (YieldsList-from_slice s.holds cc) (λ x q k. search (rules, tests)) (λ x q k. search (rules, tests)))
