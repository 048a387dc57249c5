use Rattle.std.proofs.Common.{◌≡◌, ℕ, ◌+◌, ◌∷◌, ◌++◌, [], length, vec_items, Ok, Err, Result, ap, ◌∙◌, subst, rules, tests}
use Rattle.std.proofs.lemmas.List.{length_push}
use Rattle.std.proofs.lemmas.Result.{err_from_is_err_and}
use Rattle.parts.specs.Building.{known}
use Rattle.parts.specs.Edits.{Collected}
use Rattle.parts.specs.Errors.{at_line}
use Rattle.parts.specs.Text.{lines, words}
use Rattle.parts.specs.declared.fault.LineError.{LineError}
use Rattle.parts.proofs.Collecting.{stopped, one_more, all_done}
use Rattle.parts.proofs.Turns.{IsLine, turn, ended, mapped_ok, mapped_err}
use Rattle.parts.proofs.edits.read_edits.Goals as goal
use Rattle.parts.proofs.edits.read_edits.Goals.{After-collect_line, After-map_err}

here : (c : After-collect_line) → (c.in-Some.above ≡ length c.loop-above.yielded) × IsLine (lines c.args.text.now) (length c.loop-above.yielded) c.in-Some.line.now
here c =
    turn {s = c.split.result} _ c.args.text.now c.split.ensures.rest c.split.ensures.done c.split.ensures.closure (cc) (cc) (λ x b q k. search (rules, tests)) c.loop-above.yielded _ _ c.loop-above.yielded_by
    c.next.result c.next.ensures.steps c.in-Some.above c.in-Some.line c.in-Some.is

told : (c : After-collect_line) (r : Result (Unit {0}) LineError) → c.collect_line.result ≡ r → Collected (known c.args.drawing.now) (words c.in-Some.line.now) (vec_items c.loop-above.edits) (vec_items c.collect_line.new.edits) r
told c r is = subst (Collected (known c.args.drawing.now) (words c.in-Some.line.now) (vec_items c.loop-above.edits) (vec_items c.collect_line.new.edits)) is c.collect_line.ensures

named : (c : After-map_err) (e : LineError) → c.collect_line.result ≡ Err e → c.map_err.result ≡ Err (at_line (c.in-Some.above + 1) e)
named c e is =
    let p = err_from_is_err_and c.map_err.result (rw is at c.map_err.ensures.cases) in
    let q : p.0 ≡ at_line (c.in-Some.above + 1) e = search rules in
    p.1 ∙ ap Err q

pub returns-in_err-map_err : goal.returns-in_err-map_err
returns-in_err-map_err c =
    let at = goal.at.returns-in_err-map_err c in
    let names = known c.args.drawing.now in
    let line = here at.After-collect_line in
    let p = err_from_is_err_and c.from_residual.result c.from_residual.ensures.1 in
    let e = mapped_err (at_line (c.in-Some.above + 1)) c.collect_line.result c.map_err.result _ c.map_err.ensures.variant (named at.After-map_err) c.in_err-map_err.was in
    rw (p.1, p.2 ∙ e.2 ∙ ap (λ (n : ℕ). at_line (n + 1) e.0) line.0)
    (stopped names c.args.text.now c.in-Some.line.now _ (vec_items c.loop-above.edits) (vec_items c.collect_line.new.edits) c.loop-above.invariant line.1 e.0 (told at.After-collect_line (Err e.0) e.1))

pub loop-above-preserved : goal.loop-above-preserved
loop-above-preserved c =
    let at = (goal.at.loop-above-preserved c).After-collect_line in
    let names = known c.args.drawing.now in
    let e = mapped_ok _ c.collect_line.result c.map_err.result c.map_err.ensures.cases _ c.in_ok-map_err.was in
    let n : length (c.loop-above.yielded ++ (c.in-Some.above, c.in-Some.line) ∷ []) ≡ length c.loop-above.yielded + 1 = length_push _ _ in
    rw n (one_more names c.args.text.now c.in-Some.line.now _ (vec_items c.loop-above.edits) (vec_items c.collect_line.new.edits) c.loop-above.invariant (here at).1 (told at (Ok tt) e))

pub returns : goal.returns
returns c =
    all_done (known c.args.drawing.now) c.args.text.now _ _
    (ended {s = c.split.result} _ c.args.text.now c.split.ensures.rest c.split.ensures.done c.split.ensures.closure (cc) (cc) (λ x b q k. search (rules, tests)) c.loop-above.yielded _ _ c.loop-above.yielded_by
    c.next.result c.next.ensures.steps c.in-None.is)
    c.loop-above.invariant
