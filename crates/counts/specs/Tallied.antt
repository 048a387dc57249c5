-- A byte as a tally.
use Rattle.std.specs.Prelude.{◌≡◌, ℕ, ◌+◌, ◌^◌, cond, None, Option, ◌==◌, count_ones}
use Rattle.counts.specs.Counting.{set_to}

-- The ones of a byte fill it from the low end: k ones there make the number 2 ^ k - 1.
abbrev pub LowOnes : ℕ → Type 0
LowOnes byte = byte + 1 ≡ 2 ^ count_ones byte

-- The number told is the number of ones, up to 7; eight ones are stuck.
abbrev pub tally : ℕ → Option ℕ
tally byte = set_to 7 (count_ones byte)

-- Any byte, read as a tally: stuck, unless its ones fill it from the low end.
abbrev pub tally_row : ℕ → Option ℕ
tally_row byte = cond (byte + 1 == 2 ^ count_ones byte) (tally byte) None
