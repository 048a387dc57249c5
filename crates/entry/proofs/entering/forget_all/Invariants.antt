use Rattle.std.proofs.Common.{◌+◌, ◌-◌, ◌≤◌}
use Rattle.entry.specs.Entries.{Forgotten, Together}
use Rattle.heap.specs.States.{state}
use Rattle.entry.proofs.entering.forget_all.Given as goal

abbrev pub invariant-loop-part : goal.invariant-loop-part
invariant-loop-part g l =
    Forgotten l.cells (l.part - 1) (state l.initial.heap) (state l.heap)
    × Together g.L.Ledger.ops (state l.initial.heap) l.initial.ledger (state l.heap) l.ledger
    × (l.part ≤ l.part-end + 1)
