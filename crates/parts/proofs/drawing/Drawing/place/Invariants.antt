use Rattle.std.proofs.Common.{take}
use Rattle.parts.specs.Building.{bytes, Filled}
use Rattle.parts.proofs.drawing.Drawing.place.Given as goal

abbrev pub invariant-loop-slot : goal.invariant-loop-slot
invariant-loop-slot l = Filled l.part (take l.slot (bytes l.names)) l.initial.self l.self
