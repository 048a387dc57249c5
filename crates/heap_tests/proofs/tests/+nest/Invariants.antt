use Rattle.heap_tests.proofs.tests.+nest.Given as goal

abbrev pub decreases-nest : goal.decreases-nest
decreases-nest g l = l.holds
