-- Maps of one bit a cell, in bytes.
use Rattle.std.specs.Prelude.{◌≡◌, ℕ, ◌-◌, ◌/◌, ◌%◌, ◌^◌, ◌<◌, ◌≤◌, Bool, true, false, List, map, Some, None, Option, ◌==◌, ◌≢◌, slice_index}
use Rattle.std.specs.List.{range_with_len}

-- The bit of cell c, which counts from 1: 0 or 1.
abbrev pub bit_at : List ℕ → ℕ → ℕ
bit_at m c = slice_index m ((c - 1) / 8) / 2 ^ ((c - 1) % 8) % 2

abbrev pub is_set : List ℕ → ℕ → Bool
is_set m c = bit_at m c == 1

-- The bits of the cells 1 to n: that of c at the place c - 1.
abbrev pub flags : ℕ → List ℕ → List Bool
flags n m = map (is_set m) (range_with_len 1 n)

-- The bit of c is b, and no other changed.
pub record Put (c : ℕ) (b : Bool) (m m' : List ℕ) : Type 0 where
  pub here : is_set m' c ≡ b
  pub others : (d : ℕ) → 0 < d → (d ≢ c) → is_set m' d ≡ is_set m d

-- From a cell on, c is the first whose bit is clear.
pub record ClearAt (m : List ℕ) (from c : ℕ) : Type 0 where
  pub least : from ≤ c
  pub clear : is_set m c ≡ false
  pub first : (d : ℕ) → from ≤ d → d < c → is_set m d ≡ true

-- The first cell whose bit is clear, of those from a cell up to and without an end.
abbrev pub FirstClear : List ℕ → ℕ → ℕ → Option ℕ → Type 0
FirstClear m from end (Some c) = (c < end) × ClearAt m from c
FirstClear m from end None = (d : ℕ) → from ≤ d → d < end → is_set m d ≡ true
