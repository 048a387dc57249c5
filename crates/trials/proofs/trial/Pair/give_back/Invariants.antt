use Rattle.heap.specs.States.{state}
use Rattle.trials.specs.Tokens.{Balanced}
use Rattle.trials.proofs.trial.Pair.give_back.Given as goal

abbrev pub invariant-loop-token : goal.invariant-loop-token
invariant-loop-token g l = Balanced l.tokens.items (state l.self.left.heap) (state l.self.right.heap)

abbrev pub decreases-loop-token : goal.decreases-loop-token
decreases-loop-token g l = goal.left-loop-token g l
