use Rattle.std.proofs.Common.{true, sym, ◌∙◌, arith}
use Rattle.heap.proofs.Flags.{flags_put}
use Rattle.std.proofs.lemmas.Bool.{cond-false, or_from, ne_eqb}
use Rattle.heap.proofs.writes.put.Goals as goal

pub returns-then-old-content-clause-suspects : goal.returns-then-old-content-clause-suspects
returns-then-old-content-clause-suspects c n h =
    let old = c.replace-old.result in
    rw (sym c.replace-old.ensures.value) (flags_put n old true c.args.suspects.now c.raise.new.self (omega arith) (omega (arith, h, c.replace-old.ensures.value)) c.raise.ensures
    ∙ sym (cond-false _ _ _ (or_from _ _ (ne_eqb old 0 (λ e. omega arith)) (ne_eqb old c.args.content (λ e. omega arith)))))
