use Rattle.std.proofs.Common.{ℕ, Some, sym, ap, ◌∙◌}
use Rattle.std.proofs.lemmas.Bool.Decides.{Decides-like}
use Rattle.entry.proofs.answers.tell.Goals as goal

pub returns : goal.returns
returns g c t agrees settled cell =
    let p = g.L.Ledger.laws in
    let l = c.args.ledger.now in
    let x = c.args.cell in
    let number = (c.number.ensures t agrees).told settled cell in
    record {
      exact = λ m e. p.exact l t x m settled agrees cell (sym number ∙ e);
      complete = λ enough.
          let all = p.complete l t x enough settled agrees cell in
          number ∙ all.1 ∙ ap (λ (m : ℕ). Some m) (p.exact l t x all.0 settled agrees cell all.1);
      bare = Decides-like c.is_zero.result (λ e. number ∙ e) (λ e. sym number ∙ e) (c.is_zero.ensures t agrees settled cell);
    }
