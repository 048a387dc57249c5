use Rattle.std.proofs.Common.{take}
use Rattle.entry.specs.Entries.{Slotted, Together, referred}
use Rattle.heap.specs.States.{state}
use Rattle.entry.proofs.entering.put_references.Given as goal

abbrev pub invariant-loop-i : goal.invariant-loop-i
invariant-loop-i g l =
    Slotted (referred l.cells 0 (take l.i l.slots) (state l.initial.heap).graph.slots) (state l.initial.heap) (state l.heap)
    × Together g.L.Ledger.ops (state l.initial.heap) l.initial.ledger (state l.heap) l.ledger
