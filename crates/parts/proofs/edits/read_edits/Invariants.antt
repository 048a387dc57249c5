use Rattle.std.proofs.Common.{length, vec_items}
use Rattle.parts.proofs.Collecting.{Sofar}
use Rattle.parts.specs.Building.{known}
use Rattle.parts.proofs.edits.read_edits.Given as goal

abbrev pub invariant-loop-above : goal.invariant-loop-above
invariant-loop-above l = Sofar (known l.drawing) l.text (length l.yielded) (vec_items l.edits)
