use Rattle.heap.proofs.Views.{view_slot}
use Rattle.heap.proofs.heap.Heap.put_slot.Goals as goal

pub returns : goal.returns
returns c =
    let t = c.args.self.now.graph in
    rw c.put.ensures.place (view_slot t c.args.i c.args.c c.put.new.suspects c.requires.slot (c.put.ensures.suspects t.n (c.args.self.now.slots c.args.i)))
