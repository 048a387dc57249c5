use Rattle.std.proofs.Common.{◌≡◌, ℕ, ◌-◌, ◌*◌, ◌<◌, ◌≤◌, false}
use Rattle.zeros.specs.ZeroTables.{bit}
use Rattle.zeros.proofs.zeros.Bits.first.Given as goal

-- no bit is set in the words before this one
abbrev pub invariant-loop-i : goal.invariant-loop-i
invariant-loop-i l = (e : ℕ) → 1 ≤ e → l.c ≤ e → e - 1 < 64 * l.i → bit l.self e ≡ false
