use Rattle.entry.specs.Entries.{OnlyRoot}
use Rattle.heap.specs.States.{state}
use Rattle.entry.proofs.index.seek.Given as goal

abbrev pub invariant-loop-level : goal.invariant-loop-level
invariant-loop-level g l = OnlyRoot l.r (state l.initial.heap) (state l.heap)
