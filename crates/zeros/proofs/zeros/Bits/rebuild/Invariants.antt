use Rattle.std.proofs.Common.{ℕ, ◌<◌, ◌≤◌}
use Rattle.zeros.specs.ZeroTables.{Fresh}
use Rattle.zeros.proofs.zeros.Bits.rebuild.Given as goal

-- the bits of the cells before this one are up to date
abbrev pub invariant-loop-c : goal.invariant-loop-c
invariant-loop-c g l = (e : ℕ) → 1 ≤ e → e < l.c → Fresh g.L.Ledger.ops l.below l.self e
