use Rattle.std.proofs.Common.{ap, ◌∙◌}
use Rattle.ledgers.proofs.RowLaws.{row_read, row_written}
use Rattle.ledgers.proofs.rows.change.Goals as goal

pub returns-in-Some : goal.returns-in-Some
returns-in-Some g c = λ f none does.
    let at = c.in-Some.ensures in
    let was = row_read g.K.Count.reads c.args.rows.now _ _ _ at.0 at.1 c.index-rows-i.is in
    row_written g.K.Count.reads c.args.rows.now _ _ _ _ at.0
    (c.to_row.ensures.meaning ∙ does _ _ c.step.ensures ∙ ap f (c.from_row.ensures ∙ was))
