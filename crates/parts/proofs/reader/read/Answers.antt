use Rattle.std.proofs.Common.{◌≡◌, ℕ, ◌+◌, ◌∷◌, ◌++◌, [], length, take, Ok, Err, Result, sym, ap, ◌∙◌, subst, rules, tests}
use Rattle.std.proofs.lemmas.List.{length_push}
use Rattle.std.proofs.lemmas.Result.{err_from_is_err_and}
use Rattle.parts.specs.Drawn.{descriptions}
use Rattle.parts.specs.Errors.{at_line}
use Rattle.parts.specs.Reads.{Reads, Taken}
use Rattle.parts.specs.Text.{lines}
use Rattle.parts.specs.declared.fault.LineError.{LineError}
use Rattle.parts.proofs.Reading.{stopped, one_more, all_done}
use Rattle.parts.proofs.Turns.{IsLine, turn, ended, mapped_ok, mapped_err}
use Rattle.parts.proofs.reader.read.Goals as goal
use Rattle.parts.proofs.reader.read.Goals.{After-read_line, After-map_err}

here : (c : After-read_line) → (c.in-Some.above ≡ length c.loop-above.yielded) × IsLine (lines c.args.text.now) (length c.loop-above.yielded) c.in-Some.line.now
here c =
    turn {s = c.split.result} _ c.args.text.now c.split.ensures.rest c.split.ensures.done c.split.ensures.closure (cc) (cc) (λ x b q k. search (rules, tests)) c.loop-above.yielded _ _ c.loop-above.yielded_by
    c.next.result c.next.ensures.steps c.in-Some.above c.in-Some.line c.in-Some.is

told : (c : After-read_line) (r : Result (Unit {0}) LineError) → c.read_line.result ≡ r → Taken (descriptions (take (length c.loop-above.yielded) (lines c.args.text.now))) c.in-Some.line.now c.read_line.new.drawing r
told c r is = subst (Taken (descriptions (take (length c.loop-above.yielded) (lines c.args.text.now))) c.in-Some.line.now c.read_line.new.drawing) is (c.read_line.ensures _ c.loop-above.invariant.built)

named : (c : After-map_err) (e : LineError) → c.read_line.result ≡ Err e → c.map_err.result ≡ Err (at_line (c.in-Some.above + 1) e)
named c e is =
    let p = err_from_is_err_and c.map_err.result (rw is at c.map_err.ensures.cases) in
    let q : p.0 ≡ at_line (c.in-Some.above + 1) e = search rules in
    p.1 ∙ ap Err q

pub returns-in_err-map_err : goal.returns-in_err-map_err
returns-in_err-map_err c =
    let at = goal.at.returns-in_err-map_err c in
    let line = here at.After-read_line in
    let p = err_from_is_err_and c.from_residual.result c.from_residual.ensures.1 in
    let e = mapped_err (at_line (c.in-Some.above + 1)) c.read_line.result c.map_err.result _ c.map_err.ensures.variant (named at.After-map_err) c.in_err-map_err.was in
    subst (Reads c.args.text.now) (sym (p.1 ∙ ap Err (p.2 ∙ e.2 ∙ ap (λ (n : ℕ). at_line (n + 1) e.0) line.0)))
    (stopped c.args.text.now c.in-Some.line.now _ c.loop-above.drawing c.loop-above.invariant line.1 c.read_line.new.drawing e.0 (told at.After-read_line (Err e.0) e.1))

pub loop-above-preserved : goal.loop-above-preserved
loop-above-preserved c =
    let at = (goal.at.loop-above-preserved c).After-read_line in
    let e = mapped_ok _ c.read_line.result c.map_err.result c.map_err.ensures.cases _ c.in_ok-map_err.was in
    let n : length (c.loop-above.yielded ++ (c.in-Some.above, c.in-Some.line) ∷ []) ≡ length c.loop-above.yielded + 1 = length_push _ _ in
    rw n (one_more c.args.text.now c.in-Some.line.now _ c.loop-above.drawing c.loop-above.invariant (here at).1 c.read_line.new.drawing (told at (Ok tt) e))

pub returns : goal.returns
returns c =
    all_done c.args.text.now _ _
    (ended {s = c.split.result} _ c.args.text.now c.split.ensures.rest c.split.ensures.done c.split.ensures.closure (cc) (cc) (λ x b q k. search (rules, tests)) c.loop-above.yielded _ _ c.loop-above.yielded_by
    c.next.result c.next.ensures.steps c.in-None.is)
    c.loop-above.invariant
