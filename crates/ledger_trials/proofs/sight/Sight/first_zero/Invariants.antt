use Rattle.std.proofs.Common.{ℕ, ◌<◌, ◌≤◌, ◌≢◌, map, get_or, Some, None}
use Rattle.ledgers.specs.Tables.{Cell}
use Rattle.ledger_trials.proofs.sight.Sight.first_zero.Given as goal

abbrev pub invariant-loop-d : goal.invariant-loop-d
invariant-loop-d l = (e : ℕ) → Cell l.self.cells e → l.c ≤ e → e < l.d → get_or (map (λ t. t.number) l.self.told.items) e None ≢ Some 0
