use Rattle.entry.specs.Entries.{OnlyRoots, Pointing}
use Rattle.heap.specs.States.{state}
use Rattle.std.proofs.Common.{vec_items}
use Rattle.entry.proofs.pointing.load_all.Given as goal

abbrev pub invariant-loop-slot : goal.invariant-loop-slot
invariant-loop-slot g l = Pointing l.cells (state l.initial.heap).graph.slots l.slot (vec_items l.parts) × OnlyRoots (state l.initial.heap) (state l.heap)
