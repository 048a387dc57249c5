-- The bits of the cells 1 to n as a list.
use Rattle.std.proofs.Common.{◌≡◌, ℕ, ◌+◌, ◌-◌, ◌/◌, ◌%◌, ◌^◌, ◌<◌, ◌≤◌, Bool, false, eqb, List, [], ◌∷◌, map, length, get_or, set, replicate, count_by, refl, sym, ap, ◌∙◌, ⊎_elim, arith, length-set, get_or-set_other, get_or-set_same, ext_get_or}
use native.Mathlib.Nat.{zero-div}
use lib.ListN.{length-replicate, get_or-replicate}
use Rattle.heap.proofs.Contents.{each_same}
use Rattle.heap.specs.Bits.{is_set, flags, Put}
use Rattle.std.proofs.lemmas.List.FromFn.{length-map-range_with_len, get_or-map-range_with_len}
use Rattle.std.proofs.lemmas.Bool.{cases_eq}
use Rattle.std.proofs.lemmas.Grind.{common_steps}
use Rattle.std.specs.List.{range_with_len}

pub length_flags : (n : ℕ) (m : List ℕ) → length (flags n m) ≡ n
length_flags n m = length-map-range_with_len (is_set m) 1 n

pub flag_at : (n c : ℕ) (m : List ℕ) → 0 < c → c ≤ n → get_or (flags n m) (c - 1) false ≡ is_set m c
flag_at n c m h l = get_or-map-range_with_len (is_set m) 1 n (c - 1) c false (omega arith) (omega arith)

pub flag_place : (n i : ℕ) (m : List ℕ) → i < n → get_or (flags n m) i false ≡ is_set m (i + 1)
flag_place n i m l = get_or-map-range_with_len (is_set m) 1 n i (i + 1) false l (omega arith)

pub flags_put : (n c : ℕ) (b : Bool) (m m' : List ℕ) → 0 < c → c ≤ n → Put c b m m' → flags n m' ≡ set (flags n m) (c - 1) b
flags_put n c b m m' h l p =
    ext_get_or false (flags n m') (set (flags n m) (c - 1) b)
    (length_flags n m' ∙ sym (length-set (flags n m) (c - 1) b ∙ length_flags n m))
    (λ i li.
    let ln : i < n = omega (arith, length_flags n m') in
    let lc : c - 1 < length (flags n m) = omega (arith, length_flags n m) in
    flag_place n i m' ln
    ∙ ⊎_elim
    (λ e. let f : i + 1 ≡ c = omega arith in ap (is_set m') f ∙ p.here ∙ sym (ap (λ (k : ℕ). get_or (set (flags n m) (c - 1) b) k false) e ∙ get_or-set_same (flags n m) (c - 1) b false lc))
    (λ ne. p.others (i + 1) (omega arith) (λ f. ne (omega arith)) ∙ sym (get_or-set_other (flags n m) (c - 1) i b false ne ∙ flag_place n i m ln))
    (cases_eq i (c - 1)))

zero_bit : (c : ℕ) → is_set (replicate 128 0) c ≡ false
zero_bit c =
    ap (λ (x : ℕ). eqb (x / 2 ^ ((c - 1) % 8) % 2) 1) (each_same {A = ℕ} 128 ((c - 1) / 8) 0) ∙ ap (λ (x : ℕ). eqb (x % 2) 1) (zero-div (2 ^ ((c - 1) % 8)))

pub flags_none : (n : ℕ) → flags n (replicate 128 0) ≡ replicate n false
flags_none n =
    ext_get_or false (flags n (replicate 128 0)) (replicate n false)
    (length_flags n (replicate 128 0) ∙ sym (length-replicate {A = Bool} n false))
    (λ i li.
    let ln : i < n = omega (arith, length_flags n (replicate 128 0)) in
    flag_place n i (replicate 128 0) ln ∙ zero_bit (i + 1) ∙ sym (get_or-replicate {A = Bool} n i false false ln))

-- The bits that are set, counted.
counted : (f : ℕ → Bool) (xs : List ℕ) → count_by (λ b. b) (map f xs) ≡ count_by f xs
counted f [] = refl
counted f (x ∷ xs) = grind (arith, common_steps, counted f xs)

pub count_flags : (n : ℕ) (m : List ℕ) → count_by (λ b. b) (flags n m) ≡ count_by (is_set m) (range_with_len 1 n)
count_flags n m = counted (is_set m) (range_with_len 1 n)
