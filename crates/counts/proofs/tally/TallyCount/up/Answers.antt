use Rattle.std.proofs.Common.{rules}
use Rattle.counts.proofs.Tallies.{longer_low, longer_tells}
use Rattle.counts.proofs.tally.TallyCount.up.Goals as goal

pub invariant_of-result : goal.invariant_of-result
invariant_of-result c = record { low = longer_low c.args.self.ones (search rules) c.args.self.low }

pub returns : goal.returns
returns c = longer_tells c.args.self.ones (search rules) c.args.self.low
