use Rattle.std.proofs.Common.{◌+◌, ◌-◌, ◌≤◌, vec_items}
use Rattle.replay.proofs.Following.{ListedBelow}
use Rattle.replay.proofs.acts.zeros.Given as goal

abbrev pub invariant-loop-c : goal.invariant-loop-c
invariant-loop-c g l = (1 ≤ l.from) × (l.from ≤ l.n + 1) × ListedBelow g.L.Ledger.ops l.n l.ledger l.from (vec_items l.zeros)

abbrev pub decreases-loop-c : goal.decreases-loop-c
decreases-loop-c g l = l.n + 1 - l.from
