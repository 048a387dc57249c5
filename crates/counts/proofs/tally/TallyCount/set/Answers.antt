use Rattle.counts.proofs.Tallies.{eight_low, filled_low, filled_tells}
use Rattle.counts.proofs.tally.TallyCount.set.Goals as goal

pub invariant_of-result : goal.invariant_of-result
invariant_of-result c = record { low = eight_low }

pub invariant_of-result-2 : goal.invariant_of-result-2
invariant_of-result-2 c = record { low = filled_low c.args.m c.if-m-gt-CEILING.false }

pub returns : goal.returns
returns c = filled_tells c.args.m c.if-m-gt-CEILING.false
