use Rattle.std.proofs.Common.{◌≡◌, ◌+◌, ◌∷◌, ◌++◌, [], length, sym, ap, ◌∙◌, inl, inr, rules, tests, arith}
use Rattle.std.proofs.lemmas.List.{length_push}
use Rattle.parts.specs.Building.{bytes}
use Rattle.parts.specs.Finds.{is_sought}
use Rattle.parts.specs.Text.{lines, words}
use Rattle.parts.proofs.Finding.{Passed, stopped, one_more, all_done}
use Rattle.parts.proofs.Turns.{IsLine, turn, ended}
use Rattle.parts.proofs.lookup.find_line.Goals as goal
use Rattle.parts.proofs.lookup.find_line.Goals.{After-is, then-is+else-to_pass-eq0, else-is}

here : (c : After-is) → (c.in-Some.above ≡ length c.loop-above.yielded) × IsLine (lines c.args.text.now) (length c.loop-above.yielded) c.in-Some.line.now
here c =
    turn {s = c.split.result} _ c.args.text.now c.split.ensures.rest c.split.ensures.done c.split.ensures.closure (cc) (cc) (λ x b q k. search (rules, tests)) c.loop-above.yielded _ _ c.loop-above.yielded_by
    c.next.result c.next.ensures.steps c.in-Some.above c.in-Some.line c.in-Some.is

sought : (c : After-is) → c.is.result ≡ is_sought c.args.kind c.args.name.now (words c.in-Some.line.now)
sought c = c.is.ensures ∙ ap (is_sought c.args.kind c.args.name.now) (ap bytes c.deref.ensures.value ∙ c.in_ok-words.ensures)

pub returns-then-to_pass-eq0 : goal.returns-then-to_pass-eq0
returns-then-to_pass-eq0 c =
    let at = (goal.at.returns-then-to_pass-eq0 c).After-is in
    let line = here at in
    rw line.0 (stopped c.args.kind c.args.name.now c.args.text.now c.in-Some.line.now _ c.args.skip c.loop-above.to_pass c.loop-above.invariant line.1 (sym (sought at) ∙ c.if-is.true) c.if-to_pass-eq0.true)

pub loop-above-preserved : goal.loop-above-preserved
loop-above-preserved c =
    let at = (goal.at.loop-above-preserved c).After-is in
    let gone : Passed c.args.kind c.args.name.now c.in-Some.line.now c.loop-above.to_pass c.if-is.to_pass =
    elim c.if-is.branch [
      | then-is+else-to_pass-eq0 w ↦ inl (sym (sought at) ∙ w.if-is.true, omega arith, w.to_pass-is)
      | else-is w ↦ inr (sym (sought at) ∙ w.if-is.false, w.to_pass-is)
    ] in
    let n : length (c.loop-above.yielded ++ (c.in-Some.above, c.in-Some.line) ∷ []) ≡ length c.loop-above.yielded + 1 = length_push _ _ in
    rw n (one_more c.args.kind c.args.name.now c.args.text.now c.in-Some.line.now _ c.args.skip c.loop-above.to_pass c.loop-above.invariant (here at).1 c.if-is.to_pass gone)

pub returns : goal.returns
returns c =
    all_done c.args.kind c.args.name.now c.args.text.now _ c.args.skip c.loop-above.to_pass
    (ended {s = c.split.result} _ c.args.text.now c.split.ensures.rest c.split.ensures.done c.split.ensures.closure (cc) (cc) (λ x b q k. search (rules, tests)) c.loop-above.yielded _ _ c.loop-above.yielded_by
    c.next.result c.next.ensures.steps c.in-None.is)
    c.loop-above.invariant
