-- What a count tells: `Some m` is the number m, `None` is stuck.
-- Three rules say all that is done to a count, whatever its kind; the ceiling is the greatest number that its kind tells.
use Rattle.std.specs.Prelude.{ℕ, ◌+◌, ◌-◌, cond, Some, None, Option, nat_le, nat_lt}

-- Up makes a told number below the ceiling one greater, and makes the ceiling stuck. A stuck count stays stuck.
abbrev pub raised : ℕ → Option ℕ → Option ℕ
raised ceiling (Some m) = cond (nat_lt m ceiling) (Some (m + 1)) None
raised ceiling None = None

-- Down makes a told number above 0 one less, and leaves 0 at 0 (`-` stops there). A stuck count stays stuck.
abbrev pub lowered : Option ℕ → Option ℕ
lowered (Some m) = Some (m - 1)
lowered None = None

-- Set to m, a count tells m, or is stuck if m is above the ceiling.
abbrev pub set_to : ℕ → ℕ → Option ℕ
set_to ceiling m = cond (nat_le m ceiling) (Some m) None
