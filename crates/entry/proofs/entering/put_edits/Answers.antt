use Rattle.std.proofs.Common.{get_or, rules}
use Rattle.entry.proofs.Lists.{edit_stored}
use Rattle.entry.specs.Entries.{Slotted, Together, put_at}
use Rattle.heap.specs.States.{state}
use Rattle.parts.specs.declared.edits.Edit.{Edit}
use Rattle.entry.proofs.entering.put_edits.Goals as goal

pub loop-i-preserved : goal.loop-i-preserved
loop-i-preserved g c =
    let inv = c.loop-i.invariant in
    let none : Edit = record { slot = 0; content = 0 } in
    let edit = get_or c.args.edits.now c.loop-i.i none in
    let put : Slotted (put_at c.args.cells.now (state c.loop-i.heap).graph.slots edit.slot edit.content) (state c.loop-i.heap) (state c.put.new.heap) × Together g.L.Ledger.ops (state c.loop-i.heap) c.loop-i.ledger (state c.put.new.heap) c.put.new.ledger = search rules in
    (edit_stored _ _ c.loop-i.i none c.loop-i-test.true inv.0 put.0, λ h. put.1 (inv.1 h))
