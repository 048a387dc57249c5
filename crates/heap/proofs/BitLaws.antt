-- Single bits of a map: tested and raised.
use Rattle.std.proofs.Common.{◌≡◌, ℕ, zero, suc, ◌-◌, ◌*◌, ◌/◌, ◌%◌, ◌^◌, ◌<◌, true, not, eqb, List, length, get_or, set, w8, refl, ap, ⊎_elim, one-mul, zero-mul, arith, get_or-set_other, get_or-set_same}
use lib.Bits.{bit_and, bit_or}
use Rattle.std.proofs.lemmas.Bool.{cases_eq, ne_eqb}
use Rattle.std.proofs.lemmas.Nat.{one_shl, pow_pos}
use Rattle.std.proofs.lemmas.Nat.Bits.{and_pow, bit_at-lt, bit_at_set_other, bit_at_set_same}
use Rattle.heap.specs.Bits.{Put}

masked : (b p : ℕ) → b < 2 → 0 < p → not (eqb (b * p) 0) ≡ eqb b 1
masked zero p l h = rw zero-mul refl
masked (suc zero) p l h = rw one-mul (ap not (ne_eqb p 0 (λ e. omega arith)))
masked (suc (suc b)) p l h = absurd (omega arith)

pub test_bit : (a k : ℕ) → k < 8 → not (eqb (bit_and a ((1 * 2 ^ k) % 256)) 0) ≡ eqb (a / 2 ^ k % 2) 1
test_bit a k h = rw (one_shl k 8 h) (rw (and_pow a k) (masked (a / 2 ^ k % 2) (2 ^ k) (bit_at-lt a k) (pow_pos k)))

pub raised : (m : List ℕ) (c : ℕ) → 0 < c → (c - 1) / 8 < length m → Put c true m (set m ((c - 1) / 8) (bit_or (get_or m ((c - 1) / 8) 0) ((1 * 2 ^ ((c - 1) % 8)) % 256)))
raised m c h l =
    let i = (c - 1) / 8 in
    let k = (c - 1) % 8 in
    let kl : k < 8 = omega arith in
    let byte = get_or m i 0 in
    let v = bit_or byte ((1 * 2 ^ k) % 256) in
    record {
      here = rw (get_or-set_same m i v 0 l) (ap (λ (x : ℕ). eqb x 1) (bit_at_set_same w8 byte k kl));
      others = λ d hd ne.
          ⊎_elim
          (λ e. rw e (rw (get_or-set_same m i v 0 l) (ap (λ (x : ℕ). eqb x 1) (bit_at_set_other w8 byte k kl ((d - 1) % 8) (λ f. ne (omega arith))))))
          (λ n. rw (get_or-set_other m i ((d - 1) / 8) v 0 n) refl) (cases_eq ((d - 1) / 8) i);
    }
