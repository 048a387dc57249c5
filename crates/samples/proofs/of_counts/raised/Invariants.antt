use Rattle.std.proofs.Common.{◌≡◌}
use Rattle.samples.specs.OfCounts.{ups}
use Rattle.samples.proofs.of_counts.raised.Given as goal

abbrev pub invariant-loop : goal.invariant-loop
invariant-loop g l = g.K.Count.tells l.count ≡ ups g.K.Count.ceiling l.counter
