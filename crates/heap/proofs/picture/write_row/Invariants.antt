use Rattle.std.proofs.Common.{take}
use Rattle.heap.specs.Pictures.{marks}
use Rattle.std.specs.Fmt.{IsPlainFormatter, HasWritten}
use Rattle.heap.proofs.picture.write_row.Given as goal

abbrev pub invariant-loop-content : goal.invariant-loop-content
invariant-loop-content g l = IsPlainFormatter l.initial.f → HasWritten g.W.Write.write_str_gives l.initial.f (marks (take l.content-index l.contents)) l.f
