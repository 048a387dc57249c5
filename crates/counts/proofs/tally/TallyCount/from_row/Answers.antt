use Rattle.counts.proofs.Tallies.{eight_low}
use Rattle.counts.proofs.tally.TallyCount.from_row.Goals as goal

pub invariant_of-result : goal.invariant_of-result
invariant_of-result c = record { low = eight_low }
