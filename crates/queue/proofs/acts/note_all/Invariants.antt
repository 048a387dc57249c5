use Rattle.std.proofs.Common.{reverse, take}
use Rattle.queue.specs.Queues.{Passed}
use Rattle.queue.proofs.acts.note_all.Given as goal

abbrev pub invariant-loop-note : goal.invariant-loop-note
invariant-loop-note g l = Passed g.L.Ledger.ops (reverse (take l.note-index l.notes)) l.initial.ledger l.ledger
