use Rattle.std.proofs.Common.{◌≡◌, ◌+◌, ◌-◌, refl, arith}
use Rattle.heap.proofs.Pictures.{rows_more}
use Rattle.heap.specs.States.{state}
use Rattle.std.proofs.Output.{has_written_append, has_written_of_eq}
use Rattle.heap.proofs.heap.Heap.write_cells.Goals as goal

pub loop-c-preserved : goal.loop-c-preserved
loop-c-preserved g c =
    let i = c.loop-c.c in (
      omega arith,
      λ plain.
          let before = c.loop-c.invariant.1 plain in
          let e : i + 1 - 1 ≡ i = omega arith in
          rw e (has_written_of_eq _ _ _ _ _ (rows_more (state c.args.self.now) i (omega arith)) (has_written_append _ _ _ _ _ _ before (c.in_ok-write_cell.ensures before.plain refl))),
    )

pub returns-in_ok-write_cell : goal.returns-in_ok-write_cell
returns-in_ok-write_cell g c plain ok =
    let before = c.loop-c.invariant.1 plain in
    let i = c.loop-c.c in
    let n : c.args.self.now.graph.n ≡ i = omega arith in
    rw n (has_written_of_eq _ _ _ _ _ (rows_more (state c.args.self.now) i (omega arith)) (has_written_append _ _ _ _ _ _ before (c.in_ok-write_cell.ensures before.plain refl)))
