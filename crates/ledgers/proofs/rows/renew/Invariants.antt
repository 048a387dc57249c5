use Rattle.std.proofs.Common.{◌≡◌, ◌++◌, map, drop, replicate, Some}
use Rattle.ledgers.proofs.rows.renew.Given as goal

abbrev pub invariant-loop-row : goal.invariant-loop-row
invariant-loop-row g l = map g.K.Count.reads l.row-items ≡ replicate l.row-index (Some 0) ++ drop l.row-index (map g.K.Count.reads l.initial.row-items)
