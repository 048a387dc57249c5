use Rattle.entry.specs.Entries.{Grown, Together}
use Rattle.heap.specs.States.{state}
use Rattle.entry.proofs.index.add.Given as goal

abbrev pub invariant-loop-level : goal.invariant-loop-level
invariant-loop-level g l = Grown (state l.initial.heap) (state l.heap) × Together g.L.Ledger.ops (state l.initial.heap) l.initial.ledger (state l.heap) l.ledger
