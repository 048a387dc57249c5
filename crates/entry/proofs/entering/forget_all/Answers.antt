use Rattle.std.proofs.Common.{refl, arith, rules}
use Rattle.entry.proofs.Lists.{forgotten_more}
use Rattle.entry.specs.Entries.{Forgot, Together, cell_of, none}
use Rattle.heap.specs.States.{state}
use Rattle.entry.proofs.entering.forget_all.Goals as goal
use Rattle.entry.proofs.entering.forget_all.Goals.{In_ok-map_err}

pub loop-part-init : goal.loop-part-init
loop-part-init g c = (record { cells_kept = refl; slots = none; holds = refl; used = refl; owner = refl }, λ h. h, omega arith)

pub loop-part-preserved : goal.loop-part-preserved
loop-part-preserved g c =
    let forgot : Forgot (cell_of c.args.cells.now c.loop-part.part) (state c.loop-part.heap) (state c.forget.new.heap) × Together g.L.Ledger.ops (state c.loop-part.heap) c.loop-part.ledger (state c.forget.new.heap) c.forget.new.ledger = search rules in
    let inv = c.loop-part.invariant in (
      forgotten_more _ c.loop-part.part _ _ (state c.loop-part.heap) _ (omega arith) (omega arith) inv.0 forgot.0,
      λ h. forgot.1 (inv.1 h),
      omega arith,
    )

pub returns-in_ok-map_err : goal.returns-in_ok-map_err
returns-in_ok-map_err g c =
    let forgot : Forgot (cell_of c.args.cells.now c.loop-part.part) (state c.loop-part.heap) (state c.forget.new.heap) × Together g.L.Ledger.ops (state c.loop-part.heap) c.loop-part.ledger (state c.forget.new.heap) c.forget.new.ledger = search rules in
    let inv = c.loop-part.invariant in (
      forgotten_more _ c.loop-part.part _ _ (state c.loop-part.heap) _ (omega arith) (omega arith) inv.0 forgot.0,
      λ h. forgot.1 (inv.1 h),
    )
