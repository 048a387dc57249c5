use Rattle.heap.specs.States.{state}
use Rattle.trials.specs.Tokens.{Moves}
use Rattle.trials.proofs.trial.Side.end.Given as goal

abbrev pub invariant-loop-place : goal.invariant-loop-place
invariant-loop-place g l = Moves l.initial.tokens.items (state l.initial.self.heap) l.tokens.items (state l.self.heap)
