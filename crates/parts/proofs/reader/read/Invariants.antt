use Rattle.std.proofs.Common.{length}
use Rattle.parts.proofs.Reading.{Sofar}
use Rattle.parts.proofs.reader.read.Given as goal

abbrev pub invariant-loop-above : goal.invariant-loop-above
invariant-loop-above l = Sofar l.text (length l.yielded) l.drawing
