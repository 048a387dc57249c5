-- What holds of every tally. A rule is an equation between two functions of the byte, and antt computes both at all nine tallies.
-- Assumes nothing.
use Rattle.std.proofs.Common.{◌≡◌, ℕ, ◌+◌, ◌-◌, ◌*◌, ◌/◌, ◌%◌, ◌^◌, ◌<◌, ◌≤◌, cond, eqb, List, map, get_or, sym, refl, ap, ◌∙◌, subst, arith, ne_eqb}
use lib.Bits.{bit_or}
use lib.Count.{ones, ones-le}
use Rattle.std.proofs.lemmas.List.FromFn.{get_or-map-range_with_len}
use Rattle.std.specs.List.{range_with_len}
use Rattle.counts.specs.Counting.{raised, lowered, set_to}
use Rattle.counts.specs.Tallied.{LowOnes, tally}

-- Two functions that are equal at the first n numbers, by a list that antt computes.
below : {X : Type 0} (f g : ℕ → X) (n : ℕ) → map f (range_with_len 0 n) ≡ map g (range_with_len 0 n) → (k : ℕ) → k < n → f k ≡ g k
below {X} f g n same k lt =
    sym (get_or-map-range_with_len f 0 n k k (f k) lt (omega arith))
    ∙ ap (λ (xs : List X). get_or xs k (f k)) same
    ∙ get_or-map-range_with_len g 0 n k k (f k) lt (omega arith)

-- f at the tallies of no one to eight ones
abbrev nine : {X : Type 0} → (ℕ → X) → List X
nine f = map (λ k. f (2 ^ k - 1)) (range_with_len 0 9)

at_tally : {X : Type 0} (f g : ℕ → X) → nine f ≡ nine g → (byte : ℕ) → byte < 256 → LowOnes byte → f byte ≡ g byte
at_tally f g same byte fits low =
    let is : 2 ^ ones byte - 1 ≡ byte = omega arith in
    subst (λ (b : ℕ). f b ≡ g b) is
    (below (λ (k : ℕ). f (2 ^ k - 1)) (λ (k : ℕ). g (2 ^ k - 1)) 9 same (ones byte) (omega (arith, ones-le 8 byte fits)))

-- one more at the low end
abbrev longer : ℕ → ℕ
longer byte = bit_or (byte * 2 % 256) 1

-- one less, unless there are eight
abbrev shorter : ℕ → ℕ
shorter byte = cond (eqb byte 255) byte (byte / 2)

shorter_is : (byte : ℕ) → (byte ≡ 255 → ⊥) → shorter byte ≡ byte / 2
shorter_is byte ne = rw (ne_eqb byte 255 ne)

module _ (byte : ℕ) (fits : byte < 256) (low : LowOnes byte) where
  pub longer_low : LowOnes (longer byte)
  unfolding ones
  longer_low = at_tally (λ b. longer b + 1) (λ b. 2 ^ ones (longer b)) refl byte fits low

  pub longer_tells : tally (longer byte) ≡ raised 7 (tally byte)
  unfolding ones
  longer_tells = at_tally (λ b. tally (longer b)) (λ b. raised 7 (tally b)) refl byte fits low

  pub shorter_low : (byte ≡ 255 → ⊥) → LowOnes (byte / 2)
  unfolding ones
  shorter_low ne = subst LowOnes (shorter_is byte ne) (at_tally (λ b. shorter b + 1) (λ b. 2 ^ ones (shorter b)) refl byte fits low)

  pub shorter_tells : (byte ≡ 255 → ⊥) → tally (byte / 2) ≡ lowered (tally byte)
  unfolding ones
  shorter_tells ne = ap tally (sym (shorter_is byte ne)) ∙ at_tally (λ b. tally (shorter b)) (λ b. lowered (tally b)) refl byte fits low

pub eight_low : LowOnes 255
unfolding ones
eight_low = refl

-- m ones at the low end, as a shift makes them
abbrev filled : ℕ → ℕ
filled m = 1 * 2 ^ m % 65536 - 1

pub filled_low : (m : ℕ) → m ≤ 7 → LowOnes (filled m)
unfolding ones
filled_low m le = below (λ k. filled k + 1) (λ k. 2 ^ ones (filled k)) 8 refl m (omega arith)

pub filled_tells : (m : ℕ) → m ≤ 7 → tally (filled m) ≡ set_to 7 m
unfolding ones
filled_tells m le = below (λ k. tally (filled k)) (set_to 7) 8 refl m (omega arith)
