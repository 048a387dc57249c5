use Rattle.std.proofs.Common.{ℕ, List, get_or, set, vec_items, sym, ap, ◌∙◌}
use Rattle.replay.proofs.Following.{edited_more}
use Rattle.replay.proofs.table.Table.change.Goals as goal

pub loop-edit-preserved : goal.loop-edit-preserved
loop-edit-preserved g c =
    let i = c.loop-edit.edit-index in
    let inv = c.loop-edit.invariant in
    let edit = get_or c.args.edits.now i (record { slot = 0; content = 0 }) in
    record {
      cells = c.write.ensures.cells ∙ inv.cells;
      changed =
          c.in_ok-write.ensures.written ∙ ap (λ (s : ℕ). set (vec_items c.loop-edit.self.slots) s edit.content) c.from.ensures
          ∙ ap (λ (t : List ℕ). set t edit.slot edit.content) inv.changed ∙ sym (edited_more (vec_items c.args.self.now.slots) c.args.edits.now i _ c.loop-edit-test.true);
      follows = rw c.write.ensures.cells (λ f. c.in_ok-write.ensures.follows (inv.follows f));
    }
