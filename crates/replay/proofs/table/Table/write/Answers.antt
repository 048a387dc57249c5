use Rattle.std.proofs.Common.{subst, arith}
use Rattle.std.proofs.lemmas.List.{get_or_read}
use Rattle.replay.proofs.Following.{followed}
use Rattle.replay.proofs.table.Table.write.Goals as goal

pub returns-then-old-content-clause-follows : goal.returns-then-old-content-clause-follows
returns-then-old-content-clause-follows g c =
    let table = c.args.self.now.slots in
    let old = get_or_read table.items c.args.slot _ (omega (arith, c.len.ensures, table.ok.0)) c.index-old.ensures 0 in
    followed g.L.Ledger.laws c.if-content-self.false (omega (arith, c.len.ensures, table.ok.0)) (subst (λ x. g.L.Ledger.ops.Notes c.args.slot x c.args.content c.args.ledger.now c.note.new.self) old c.note.ensures)
