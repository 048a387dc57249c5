use Rattle.std.proofs.Common.{rules}
use Rattle.counts.proofs.Tallies.{shorter_low, shorter_tells}
use Rattle.counts.proofs.tally.TallyCount.down.Goals as goal

pub invariant_of-result : goal.invariant_of-result
invariant_of-result c = record { low = shorter_low c.args.self.ones (search rules) c.args.self.low c.if-self-eq-STUCK.false }

pub returns : goal.returns
returns c = shorter_tells c.args.self.ones (search rules) c.args.self.low c.if-self-eq-STUCK.false
