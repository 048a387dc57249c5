use Rattle.std.proofs.Common.{arith}
use Rattle.std.proofs.lemmas.Grind.{common_steps}
use Rattle.heap.proofs.Flags.{flag_at}
use Rattle.heap.proofs.heap.Heap.is_suspect.Goals as goal

pub returns : goal.returns
returns c = grind (arith, common_steps, flag_at)
