use Rattle.coalescing.proofs.Notes.{notes_again}
use Rattle.coalescing.proofs.log.acts.LogLedger.note.Goals as goal

pub returns-in-Some : goal.returns-in-Some
returns-in-Some g c =
    notes_again g.L.Ledger.ops c.args.slot c.args.old c.args.new c.args.self.now (c.takes.ensures.0 c.if-not-takes.false)
    c.in-Some.i c.renew.new.self c.in-Some.ensures c.renew.ensures
