use Rattle.std.proofs.Common.{take}
use Rattle.entry.specs.Entries.{Slotted, Together, edited}
use Rattle.heap.specs.States.{state}
use Rattle.entry.proofs.entering.put_edits.Given as goal

abbrev pub invariant-loop-i : goal.invariant-loop-i
invariant-loop-i g l =
    Slotted (edited l.cells (take l.i l.edits) (state l.initial.heap).graph.slots) (state l.initial.heap) (state l.heap)
    × Together g.L.Ledger.ops (state l.initial.heap) l.initial.ledger (state l.heap) l.ledger
