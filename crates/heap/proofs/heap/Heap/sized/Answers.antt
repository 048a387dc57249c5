use Rattle.heap.proofs.Contents.{within_none}
use Rattle.heap.proofs.Views.{view_none}
use Rattle.heap.proofs.heap.Heap.sized.Goals as goal

pub invariant_of-result : goal.invariant_of-result
invariant_of-result c =
    let n = c.args.n in
    record { small = c.requires; slots = within_none 4096 n; roots = within_none 16 n; holds = within_none 16 n }

pub returns : goal.returns
returns c = rw c.new.ensures (rw c.new-2.ensures (view_none c.args.n c.requires))
