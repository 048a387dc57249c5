use Rattle.entry.proofs.Moves.{added_new, added_then, grown_slot, used_long}
use Rattle.heap.specs.States.{state}
use Rattle.entry.proofs.index.hang.Goals as goal

pub returns : goal.returns
returns g c =
    let new = c.in_ok-cell.ensures.does in
    let store = c.in_ok-store.ensures.does in
    let before = state c.args.heap.now in
    let mid = state c.new_cell.new.self in
    let added = added_new 0 c.in_ok-cell.cell before mid (used_long c.args.heap.now) new.0.state new.1 in (
      added_then added (grown_slot _ _ mid (state c.store.new.self) store.0.state),
      λ h. c.in_ok-store.ensures.keeps.0 (c.in_ok-cell.ensures.keeps.0 h),
    )
