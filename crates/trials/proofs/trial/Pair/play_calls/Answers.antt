use Rattle.trials.proofs.Tokens.{balanced_at_first}
use Rattle.trials.proofs.trial.Pair.play_calls.Goals as goal

pub loop-init : goal.loop-init
loop-init g c = balanced_at_first _ _ _ c.requires.kept c.requires.left c.requires.right
