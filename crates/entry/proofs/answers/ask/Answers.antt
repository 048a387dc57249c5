use Rattle.std.proofs.Common.{ℕ, get_or, vec_items, sym, subst}
use Rattle.entry.specs.Tells.{Counted}
use Rattle.ledgers.specs.Tables.{Cell}
use Rattle.entry.proofs.answers.ask.Goals as goal

pub returns : goal.returns
returns g c =
    let o = g.L.Ledger.ops in
    let p = g.L.Ledger.laws in
    let l = c.args.ledger.now in
    let l' = c.settle.new.self in
    let told = c.in_ok-parts.ensures in
    record {
      waited = c.waiting-waiting.ensures;
      size = told.size;
      each = λ t agrees i d lt cell.
          let shape = p.settle_shape l l' t c.settle.ensures agrees in
          let x = get_or c.args.cells.now i 0 in
          subst (λ (n : ℕ). Counted o.ceiling n t x (get_or (vec_items c.in_ok-parts.parts) i d)) shape.cells
          (told.each i d lt t (p.settle_agrees l l' t c.settle.ensures agrees) (p.settle_settles l l' t c.settle.ensures agrees) (subst (λ (n : ℕ). Cell n x) (sym shape.cells) cell));
      settled = λ t agrees. (
        p.settle_settles l l' t c.settle.ensures agrees,
        p.settle_agrees l l' t c.settle.ensures agrees,
        (p.settle_shape l l' t c.settle.ensures agrees).cells,
      );
    }
