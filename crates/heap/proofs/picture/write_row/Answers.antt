use Rattle.std.proofs.Common.{◌<◌, length, refl, arith}
use Rattle.heap.proofs.Pictures.{marks_more}
use Rattle.std.proofs.Output.{has_written_append, has_written_of_eq}
use Rattle.heap.proofs.picture.write_row.Goals as goal

pub loop-content-preserved : goal.loop-content-preserved
loop-content-preserved g c plain =
    let xs = c.args.contents.now in
    let i = c.loop-content.content-index in
    let w : i < length xs = omega arith in
    let before = c.loop-content.invariant plain in
    has_written_of_eq _ _ _ _ _ (marks_more xs i w) (has_written_append _ _ _ _ _ _ before (c.in_ok-write_mark.ensures before.plain refl))
