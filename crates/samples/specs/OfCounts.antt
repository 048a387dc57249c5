-- Samples of counts.
use Rattle.std.specs.Prelude.{◌≡◌, ℕ, zero, suc, Some, None, Option}
use Rattle.counts.specs.Counting.{raised, lowered}

-- What a new count tells after n ups.
abbrev pub ups : ℕ → ℕ → Option ℕ
ups ceiling zero = Some 0
ups ceiling (suc n) = raised ceiling (ups ceiling n)

-- A sticky count, whose ceiling is 2: two ups tell 2, a third nothing, and a down then still nothing.
pub record StickySample : Type 0 where
  pub two : ups 2 2 ≡ Some 2
  pub three : ups 2 3 ≡ None
  pub down : lowered (ups 2 3) ≡ None

-- A tally, whose ceiling is 7: seven ups tell 7, an eighth nothing.
pub record TallySample : Type 0 where
  pub seven : ups 7 7 ≡ Some 7
  pub eight : ups 7 8 ≡ None
