-- Laws of the bits of words. Assumes nothing.
use Rattle.std.proofs.Common.{◌≡◌, ℕ, zero, suc, ◌+◌, ◌-◌, ◌*◌, ◌/◌, ◌%◌, ◌^◌, ◌<◌, ◌≤◌, Bool, true, false, cond, ◌&&◌, eqb, ◌⊎◌, List, length, get_or, set, replicate, Some, None, sym, refl, ap, ◌∙◌, subst, inl, inr, ⊎_elim, one-mul, pow-suc, div-one, one-add, arith}
use native.Mathlib.Nat.{div-eq_of_lt, mul-mod_left}
use lib.Bits.{bit_and, bit_or, and_mod, and_shr, and_zero_r, or_mod, or_shr, or_zero_r}
use lib.Count.{count_trailing_zeros, under}
use Rattle.std.proofs.lemmas.Nat.{one_shl, pow-add, pow_below, pow_pos, shl-shr, shr-shr}
use Rattle.std.proofs.lemmas.List.{get_or_past, get_or-replicate, get_or-set_other, get_or-set_same, length-replicate}
use Rattle.std.proofs.lemmas.Bool.{and_parts, cases_eq, cases_lt, cases_order, cond-false, cond-true, eq-eqb, eqb-true, ne_eqb}
use Rattle.zeros.specs.ZeroTables.{bit, digit, FirstSet, FirstPlace, Put}
use Rattle.zeros.specs.declared.zeros.Bits.{Bits}

pub digit_cases : (n : ℕ) → (n % 2 ≡ 0) ⊎ (n % 2 ≡ 1)
digit_cases n = ⊎_elim (λ (e : n % 2 ≡ 0). inl e) (λ (ne : n % 2 ≡ 0 → ⊥). inr (omega arith)) (cases_eq (n % 2) 0)

pub digit_zero : (j : ℕ) → digit 0 j ≡ 0
digit_zero j = ap (λ (x : ℕ). x % 2) (div-eq_of_lt (pow_pos j))

-- places above those of a shifted word
pub digit_shifted : (n k j : ℕ) → k ≤ j → digit n j ≡ digit (n / 2 ^ k) (j - k)
digit_shifted n k j le =
    let e : k + (j - k) ≡ j = omega arith in
    ap (λ (x : ℕ). digit n x) (sym e) ∙ ap (λ (x : ℕ). x % 2) (sym (shr-shr n k (j - k)))

-- places past the top are 0
digit_past : (n w j : ℕ) → n < 2 ^ w → w ≤ j → digit n j ≡ 0
digit_past n w j lt le =
    digit_shifted n w j le ∙ ap (λ (x : ℕ). digit x (j - w)) (div-eq_of_lt lt) ∙ digit_zero (j - w)

-- ---- the lowest set place

half_digit : (n t : ℕ) → n / 2 / 2 ^ t % 2 ≡ n / 2 ^ suc t % 2
half_digit n t = ap (λ (x : ℕ). x % 2) (shr-shr n 1 t ∙ ap (λ (x : ℕ). n / 2 ^ x) (one-add t))

pub trailing_set : (k n : ℕ) → 0 < n → n < 2 ^ k → digit n (count_trailing_zeros k n) ≡ 1
unfolding count_trailing_zeros
trailing_set zero n h l = absurd (omega arith)
trailing_set (suc k) n h l =
    ⊎_elim
    (λ (e : n % 2 ≡ 0). rw e (sym (half_digit n (count_trailing_zeros k (n / 2))) ∙ trailing_set k (n / 2) (omega arith) (omega (arith, pow-suc 2 k))))
    (λ (e : n % 2 ≡ 1). rw e (ap (λ (x : ℕ). x % 2) (div-one n) ∙ e))
    (digit_cases n)

-- the places below, from those of the half
clear_below : (n t : ℕ) → n % 2 ≡ 0 → ((i : ℕ) → i < t → digit (n / 2) i ≡ 0) → (i : ℕ) → i < suc t → digit n i ≡ 0
clear_below n t even half zero lt = ap (λ (x : ℕ). x % 2) (div-one n) ∙ even
clear_below n t even half (suc i) lt = sym (half_digit n i) ∙ half i (omega arith)

pub trailing_clear : (k n i : ℕ) → i < count_trailing_zeros k n → digit n i ≡ 0
unfolding count_trailing_zeros
trailing_clear zero n i h = absurd (omega arith)
trailing_clear (suc k) n i h =
    let P : ℕ → Type 0 = λ x. i < under x (count_trailing_zeros k (n / 2)) in
    ⊎_elim
    (λ (e : n % 2 ≡ 0). clear_below n (count_trailing_zeros k (n / 2)) e (trailing_clear k (n / 2)) i (subst P e h))
    (λ (e : n % 2 ≡ 1). let none : i < 0 = subst P e h in absurd (omega arith))
    (digit_cases n)

pub first_place_none : (word from : ℕ) → word / 2 ^ from ≡ 0 → FirstPlace word from None
first_place_none word from none i le = digit_shifted word from i le ∙ ap (λ (x : ℕ). digit x (i - from)) none ∙ digit_zero (i - from)

first_place_at : (word from t : ℕ) → word < 2 ^ 64 → digit (word / 2 ^ from) t ≡ 1 → ((i : ℕ) → i < t → digit (word / 2 ^ from) i ≡ 0)
    → FirstPlace word from (Some (from + t))
first_place_at word from t fits found before =
    let here : digit word (from + t) ≡ 1 = ap (λ (x : ℕ). x % 2) (sym (shr-shr word from t)) ∙ found in (
      omega arith,
      ⊎_elim
          (λ (lt : from + t < 64). lt)
          (λ (le : 64 ≤ from + t). let none = digit_past word 64 (from + t) fits le in absurd (omega arith))
          (cases_lt (from + t) 64),
      here,
      λ i le lt. digit_shifted word from i le ∙ before (i - from) (omega arith),
    )

pub first_place_some : (word from : ℕ) → word < 2 ^ 64 → 0 < word / 2 ^ from → word / 2 ^ from < 2 ^ 64
    → FirstPlace word from (Some (from + count_trailing_zeros 64 (word / 2 ^ from)))
first_place_some word from fits some short =
    let rest = word / 2 ^ from in
    first_place_at word from (count_trailing_zeros 64 rest) fits (trailing_set 64 rest some short) (trailing_clear 64 rest)

-- ---- a mask of one place

mask_same : (k : ℕ) → digit (2 ^ k) k ≡ 1
mask_same k = let e : 1 * 2 ^ k / 2 ^ k ≡ 1 = shl-shr 1 k in let f : 1 * 2 ^ k ≡ 2 ^ k = one-mul (2 ^ k) in ap (λ (x : ℕ). x % 2) (rw f at e)

mask_over : (d k : ℕ) → digit (2 ^ (suc d + k)) k ≡ 0
mask_over d k = rw (pow-add 2 (suc d) k) (rw (shl-shr (2 ^ suc d) k) (rw (pow-suc 2 d) (mul-mod_left (2 ^ d) 2)))

mask_other : (j k : ℕ) → (j ≡ k → ⊥) → digit (2 ^ k) j ≡ 0
mask_other j k ne =
    ⊎_elim (λ e. absurd (ne e))
    (λ o. ⊎_elim
    (λ (l : j < k). let e : k ≡ suc (k - j - 1) + j = omega arith in rw e (mask_over (k - j - 1) j))
    (λ (l : k < j). rw (div-eq_of_lt (pow_below k j l)))
    o)
    (cases_order j k)

or_digit : (a b j : ℕ) → digit (bit_or a b) j ≡ bit_or (digit a j) (digit b j)
or_digit a b j = ap (λ (x : ℕ). x % 2) (or_shr a b j) ∙ or_mod (a / 2 ^ j) (b / 2 ^ j) 1

and_digit : (a b j : ℕ) → digit (bit_and a b) j ≡ bit_and (digit a j) (digit b j)
and_digit a b j = ap (λ (x : ℕ). x % 2) (and_shr a b j) ∙ and_mod (a / 2 ^ j) (b / 2 ^ j) 1

or_one : (b : ℕ) → (b ≡ 0) ⊎ (b ≡ 1) → bit_or b 1 ≡ 1
or_one b o = ⊎_elim (λ e. rw e) (λ e. rw e) o

and_one : (b : ℕ) → (b ≡ 0) ⊎ (b ≡ 1) → bit_and b 1 ≡ b
and_one b o = ⊎_elim (λ e. rw e) (λ e. rw e) o

raised_same : (a k : ℕ) → digit (bit_or a (2 ^ k)) k ≡ 1
raised_same a k = or_digit a (2 ^ k) k ∙ ap (bit_or (digit a k)) (mask_same k) ∙ or_one (digit a k) (digit_cases (a / 2 ^ k))

raised_other : (a j k : ℕ) → (j ≡ k → ⊥) → digit (bit_or a (2 ^ k)) j ≡ digit a j
raised_other a j k ne = or_digit a (2 ^ k) j ∙ ap (bit_or (digit a j)) (mask_other j k ne) ∙ or_zero_r (digit a j)

-- a check of each number below n, by computing
abbrev allb : (ℕ → Bool) → ℕ → Bool
allb P zero = true
allb P (suc n) = P n && allb P n

allb_at : (P : ℕ → Bool) (n : ℕ) → allb P n ≡ true → (j : ℕ) → j < n → P j ≡ true
allb_at P zero h j l = absurd (omega arith)
allb_at P (suc n) h j l =
    let q = and_parts (P n) (allb P n) h in
    ⊎_elim (λ e. rw e q.0) (λ ne. allb_at P n q.1 j (omega arith)) (cases_eq j n)

abbrev rest : ℕ → ℕ
rest k = 18446744073709551615 - 2 ^ k

abbrev rest_is : ℕ → ℕ → Bool
rest_is j k = eqb (digit (rest k) j) (cond (eqb j k) 0 1)

rest_all : allb (λ j. allb (rest_is j) 64) 64 ≡ true
rest_all = refl

rest_digit : (j k : ℕ) → j < 64 → k < 64 → digit (rest k) j ≡ cond (eqb j k) 0 1
rest_digit j k h l = eqb-true _ _ (allb_at (rest_is j) 64 (allb_at (λ i. allb (rest_is i) 64) 64 rest_all j h) k l)

lowered_same : (a k : ℕ) → k < 64 → digit (bit_and a (rest k)) k ≡ 0
lowered_same a k l =
    let e : digit (rest k) k ≡ 0 = rest_digit k k l l ∙ cond-true (eqb k k) 0 1 (eq-eqb k k refl) in
    and_digit a (rest k) k ∙ ap (bit_and (digit a k)) e ∙ and_zero_r (digit a k)

lowered_other : (a j k : ℕ) → j < 64 → k < 64 → (j ≡ k → ⊥) → digit (bit_and a (rest k)) j ≡ digit a j
lowered_other a j k h l ne =
    let e : digit (rest k) j ≡ 1 = rest_digit j k h l ∙ cond-false (eqb j k) 0 1 (ne_eqb j k ne) in
    and_digit a (rest k) j ∙ ap (bit_and (digit a j)) e ∙ and_one (digit a j) (digit_cases (a / 2 ^ j))

-- ---- the bits of cells

abbrev pub words_of : List ℕ → Bits
words_of ws = record { words = ws }

pub blank : (c : ℕ) → bit (words_of (replicate 16 0)) c ≡ false
unfolding bit
blank c =
    let ws : List ℕ = replicate 16 0 in
    let i = (c - 1) / 64 in
    let none : get_or ws i 0 ≡ 0 =
    ⊎_elim
    (λ (lt : i < 16). get_or-replicate 16 i 0 0 lt)
    (λ (le : 16 ≤ i). get_or_past ws i 0 (omega (arith, length-replicate {A = ℕ} 16 0)))
    (cases_lt i 16) in
    ap (λ (x : ℕ). eqb x 1) (ap (λ (x : ℕ). digit x ((c - 1) % 64)) none ∙ digit_zero ((c - 1) % 64))

-- a word written at the place of c, that differs from what it was in the place of c alone
put_word : (ws : List ℕ) (c v : ℕ) (on : Bool) → 1 ≤ c → (c - 1) / 64 < length ws → eqb (digit v ((c - 1) % 64)) 1 ≡ on
    → ((j : ℕ) → j < 64 → (j ≡ (c - 1) % 64 → ⊥) → digit v j ≡ digit (get_or ws ((c - 1) / 64) 0) j)
    → Put c on (words_of ws) (words_of (set ws ((c - 1) / 64) v))
unfolding bit
put_word ws c v on some lt same others = record {
  made = λ cell. ap (λ (w : ℕ). eqb (digit w ((c - 1) % 64)) 1) (get_or-set_same ws ((c - 1) / 64) v 0 lt) ∙ same;
  others = λ d from ne. ap (λ (x : ℕ). eqb x 1) (⊎_elim
      (λ (e : (d - 1) / 64 ≡ (c - 1) / 64).
      ap (λ (i : ℕ). digit (get_or (set ws ((c - 1) / 64) v) i 0) ((d - 1) % 64)) e
      ∙ ap (λ (w : ℕ). digit w ((d - 1) % 64)) (get_or-set_same ws ((c - 1) / 64) v 0 lt)
      ∙ others ((d - 1) % 64) (omega arith) (λ f. ne (omega arith))
      ∙ ap (λ (i : ℕ). digit (get_or ws i 0) ((d - 1) % 64)) (sym e))
      (λ (apart : (d - 1) / 64 ≡ (c - 1) / 64 → ⊥).
      ap (λ (w : ℕ). digit w ((d - 1) % 64)) (get_or-set_other ws ((c - 1) / 64) ((d - 1) / 64) v 0 apart))
      (cases_eq ((d - 1) / 64) ((c - 1) / 64)));
}

-- the mask of c, as the code makes it
abbrev pub mask : ℕ → ℕ
mask c = (1 * 2 ^ ((c - 1) % 64)) % 18446744073709551616

mask_is : (c : ℕ) → mask c ≡ 2 ^ ((c - 1) % 64)
mask_is c = one_shl ((c - 1) % 64) 64 (omega arith)

pub raised : (ws : List ℕ) (c v : ℕ) (on : Bool) → 1 ≤ c → (c - 1) / 64 < length ws → on ≡ true
    → v ≡ bit_or (get_or ws ((c - 1) / 64) 0) (mask c) → Put c on (words_of ws) (words_of (set ws ((c - 1) / 64) v))
raised ws c v on some lt is_on is =
    let w = get_or ws ((c - 1) / 64) 0 in
    let k = (c - 1) % 64 in
    let made : bit_or w (2 ^ k) ≡ v = ap (bit_or w) (sym (mask_is c)) ∙ sym is in
    put_word ws c v on some lt
    (ap (λ (x : ℕ). eqb (digit x k) 1) (sym made) ∙ eq-eqb _ 1 (raised_same w k) ∙ sym is_on)
    (λ j h ne. ap (λ (x : ℕ). digit x j) (sym made) ∙ raised_other w j k ne)

pub lowered : (ws : List ℕ) (c v : ℕ) (on : Bool) → 1 ≤ c → (c - 1) / 64 < length ws → on ≡ false
    → v ≡ bit_and (get_or ws ((c - 1) / 64) 0) (18446744073709551615 - mask c) → Put c on (words_of ws) (words_of (set ws ((c - 1) / 64) v))
lowered ws c v on some lt is_off is =
    let w = get_or ws ((c - 1) / 64) 0 in
    let k = (c - 1) % 64 in
    let short : k < 64 = omega arith in
    let made : bit_and w (rest k) ≡ v = ap (λ (x : ℕ). bit_and w (18446744073709551615 - x)) (sym (mask_is c)) ∙ sym is in
    put_word ws c v on some lt
    (ap (λ (x : ℕ). eqb (digit x k) 1) (sym made) ∙ ap (λ (x : ℕ). eqb x 1) (lowered_same w k short) ∙ sym is_off)
    (λ j h ne. ap (λ (x : ℕ). digit x j) (sym made) ∙ lowered_other w j k h short ne)

-- ---- the first set bit

bit_at : (bits : Bits) (i j e : ℕ) → e - 1 ≡ 64 * i + j → j < 64 → bit bits e ≡ eqb (digit (get_or bits.words i 0) j) 1
unfolding bit
bit_at bits i j e is lt =
    let word : (e - 1) / 64 ≡ i = omega arith in
    let place : (e - 1) % 64 ≡ j = omega arith in
    λ x. eqb (digit (get_or bits.words (word x) 0) (place x)) 1

-- what is clear in word i up to a place is clear in the table up to that place
clear_to : (bits : Bits) (c i place : ℕ) → place ≤ 64 → ((e : ℕ) → 1 ≤ e → c ≤ e → e - 1 < 64 * i → bit bits e ≡ false)
    → ((j : ℕ) → c - 1 - 64 * i ≤ j → j < place → digit (get_or bits.words i 0) j ≡ 0)
    → (e : ℕ) → 1 ≤ e → c ≤ e → e - 1 < 64 * i + place → bit bits e ≡ false
clear_to bits c i place short before word e some from lt =
    ⊎_elim
    (λ (earlier : e - 1 < 64 * i). before e some from earlier)
    (λ (here : 64 * i ≤ e - 1).
    let j = e - 1 - 64 * i in
    bit_at bits i j e (omega arith) (omega arith) ∙ ap (λ (x : ℕ). eqb x 1) (word j (omega arith) (omega arith)))
    (cases_lt (e - 1) (64 * i))

pub first_none : (bits : Bits) (c i skip : ℕ) → skip ≡ c - 1 - 64 * i → ((e : ℕ) → 1 ≤ e → c ≤ e → e - 1 < 64 * i → bit bits e ≡ false)
    → FirstPlace (get_or bits.words i 0) skip None
    → (e : ℕ) → 1 ≤ e → c ≤ e → e - 1 < 64 * (i + 1) → bit bits e ≡ false
first_none bits c i skip is before word e some from lt =
    clear_to bits c i 64 (omega arith) before (λ j le h. word j (omega arith)) e some from (omega arith)

pub first_some : (bits : Bits) (c i skip place : ℕ) → i < 16 → (c - 1) / 64 ≤ i → skip ≡ c - 1 - 64 * i
    → ((e : ℕ) → 1 ≤ e → c ≤ e → e - 1 < 64 * i → bit bits e ≡ false)
    → FirstPlace (get_or bits.words i 0) skip (Some place) → FirstSet bits c (Some (64 * i + place + 1))
first_some bits c i skip place within starts is before word =
    let le = word.0 in
    let short = word.1 in (
      (omega arith, omega arith),
      omega arith,
      bit_at bits i place (64 * i + place + 1) (omega arith) short ∙ eq-eqb _ 1 word.2,
      λ e some from lt. clear_to bits c i place (omega arith) before (λ j h to. word.3 j (omega arith) to) e some from (omega arith),
    )
