use Rattle.heap.specs.States.{state}
use Rattle.trials.specs.Tokens.{Balanced}
use Rattle.trials.proofs.trial.Pair.play_calls.Given as goal

abbrev pub invariant-loop : goal.invariant-loop
invariant-loop g l = Balanced l.tokens.items (state l.self.left.heap) (state l.self.right.heap)
