use Rattle.std.proofs.Common.{◌≡◌, ℕ, List, get_or, set, sym, ap, ◌∙◌, set-set}
use lib.Seq.{set-get_or}
use Rattle.heap.specs.ReleaseLaws.{released}
use Rattle.heap.specs.States.{State, state}
use Rattle.heap_tests.proofs.tests.+nest.Goals as goal

-- A place that was empty is written and emptied again.
emptied-again : (xs : List ℕ) (k c : ℕ) → get_or xs k 0 ≡ 0 → set (set xs k c) k 0 ≡ xs
emptied-again xs k c e = set-set xs k c 0 ∙ ap (set xs k) (sym e) ∙ set-get_or xs k 0

pub returns : goal.returns
returns g t c =
    let held = c.in_ok-token.ensures.does in
    let opened = held.0.state in
    let closed = released g.L.Ledger.ops c.in_ok-token.token (state c.nest-outcome.new.heap) (state c.release.new.self) c.args.ledger.now c.release.result c.unwrap.ensures c.release.ensures.does in
    let k = c.in_ok-token.token.hold in
    record {
      cells = ap (λ (s : State). s.graph.cells) closed ∙ c.nest-outcome.ensures.cells ∙ ap (λ (s : State). s.graph.cells) opened;
      holds = ap (λ (s : State). s.graph.holds) closed
          ∙ ap (λ (xs : List ℕ). set xs k 0) (c.nest-outcome.ensures.holds ∙ ap (λ (s : State). s.graph.holds) opened)
          ∙ emptied-again (state c.args.heap.now).graph.holds k _ held.1.empty;
    }
