use Rattle.std.proofs.Common.{length}
use Rattle.parts.proofs.Finding.{Sofar}
use Rattle.parts.proofs.lookup.find_line.Given as goal

abbrev pub invariant-loop-above : goal.invariant-loop-above
invariant-loop-above l = Sofar l.kind l.name l.text (length l.yielded) l.skip l.to_pass
