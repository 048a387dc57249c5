use Rattle.trials.proofs.Tokens.{none_open_anew}
use Rattle.trials.proofs.trial.Side.new.Goals as goal

pub returns : goal.returns
returns g c = none_open_anew _ c.new.ensures
