use Rattle.std.proofs.Common.{◌≡◌, ◌+◌, ◌-◌, ◌≤◌, length, vec_items}
use Rattle.entry.specs.Entries.{Grown, Own, Together}
use Rattle.heap.specs.States.{state}
use Rattle.entry.proofs.entering.add_parts.Given as goal

abbrev pub invariant-loop-part : goal.invariant-loop-part
invariant-loop-part g l =
    (length (vec_items l.cells) ≡ l.part - 1)
    × Own (vec_items l.cells) (state l.heap)
    × Grown (state l.initial.heap) (state l.heap)
    × Together g.L.Ledger.ops (state l.initial.heap) l.initial.ledger (state l.heap) l.ledger
    × (l.part ≤ l.count + 1)
