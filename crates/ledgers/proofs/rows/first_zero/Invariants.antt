use Rattle.std.proofs.Common.{ℕ, ◌<◌, ◌≤◌, ◌≢◌, get_or, Some, None}
use Rattle.ledgers.specs.Bottoms.{counts_of}
use Rattle.ledgers.specs.Tables.{Cell}
use Rattle.ledgers.proofs.rows.first_zero.Given as goal

abbrev pub invariant-loop-d : goal.invariant-loop-d
invariant-loop-d g l = (e : ℕ) → Cell l.n e → l.c ≤ e → e < l.d → get_or (counts_of g.K.Count.reads l.rows) e None ≢ Some 0
