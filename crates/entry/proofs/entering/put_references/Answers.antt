use Rattle.std.proofs.Common.{get_or, rules}
use Rattle.entry.proofs.Lists.{empty_passed, reference_stored}
use Rattle.entry.specs.Entries.{Slotted, Together, put_at}
use Rattle.heap.specs.States.{state}
use Rattle.entry.proofs.entering.put_references.Goals as goal

pub loop-i-preserved-then-content-eq0 : goal.loop-i-preserved-then-content-eq0
loop-i-preserved-then-content-eq0 g c = (empty_passed _ _ c.loop-i.i c.loop-i-test.true c.if-content-eq0.true c.loop-i.invariant.0, c.loop-i.invariant.1)

pub loop-i-preserved : goal.loop-i-preserved
loop-i-preserved g c =
    let i = c.loop-i.i in
    let inv = c.loop-i.invariant in
    let put : Slotted (put_at c.args.cells.now (state c.loop-i.heap).graph.slots i (get_or c.args.slots.now i 0)) (state c.loop-i.heap) (state c.put.new.heap) × Together g.L.Ledger.ops (state c.loop-i.heap) c.loop-i.ledger (state c.put.new.heap) c.put.new.ledger = search rules in
    (reference_stored _ _ i c.loop-i-test.true c.if-content-eq0.false inv.0 put.0, λ h. put.1 (inv.1 h))
