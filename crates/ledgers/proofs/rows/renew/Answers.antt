use Rattle.ledgers.proofs.RowLaws.{renew_more, renewed}
use Rattle.ledgers.proofs.rows.renew.Goals as goal
use Rattle.std.proofs.Common.{◌∙◌, arith}

pub loop-row-preserved : goal.loop-row-preserved
loop-row-preserved g c =
    renew_more g.K.Count.reads _ c.loop-row.row-items c.loop-row.row-index c.to_row.result
    c.loop-row-test.true (c.to_row.ensures.meaning ∙ c.new.ensures) c.loop-row.invariant

pub returns : goal.returns
returns g c =
    renewed g.K.Count.reads c.args.rows.now c.loop-row.row-items c.args.n c.loop-row.row-index c.requires
    (omega (arith, c.loop-row.auto.row-index-end, c.loop-row-test.false)) c.loop-row.invariant
