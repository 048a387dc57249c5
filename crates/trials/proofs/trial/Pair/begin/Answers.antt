use Rattle.trials.proofs.Tokens.{none_open_anew}
use Rattle.trials.proofs.trial.Pair.begin.Goals as goal

pub returns-in_err-self : goal.returns-in_err-self
returns-in_err-self g c = record { left = none_open_anew _ c.new-self.ensures; right = none_open_anew _ c.new-self-2.ensures }

pub returns-in_err-self-2 : goal.returns-in_err-self-2
returns-in_err-self-2 g c = record { left = none_open_anew _ c.new-self.ensures; right = none_open_anew _ c.new-self-2.ensures }

pub returns : goal.returns
returns g c = record { left = none_open_anew _ c.new-self.ensures; right = none_open_anew _ c.new-self-2.ensures }
