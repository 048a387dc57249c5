-- Laws of tables and holders. Nothing in this file has to be believed: it is checked proof.
use Rattle.std.specs.Prelude.{◌≡◌, ℕ, zero, suc, ◌+◌, ◌*◌, ◌<◌, ◌≤◌, cond, ◌⊎◌, List, length, replicate, ◌==◌, ◌≢◌, slice_index, slice_set, refl}
use Rattle.std.proofs.Common.{inl, inr, ⊎_elim, sym, ap, subst, ◌∙◌, arith}
use Rattle.ledgers.specs.Tables.{Table, holders}
use Rattle.std.proofs.lemmas.List.{length-set, length-replicate, get_or-set_same, get_or-set_other, get_or-replicate, get_or_past}
use Rattle.std.proofs.lemmas.List.Sums.{sum_by-cons, sum_by-set}
use Rattle.std.proofs.lemmas.Bool.{cases_eq, cases_lt, cond-true, cond-false, eq-eqb, ne_eqb}

-- whether a slot's content x is c, as a number
abbrev pub hit : ℕ → ℕ → ℕ
hit c x = cond (x == c) 1 0

pub hit_yes : (c x : ℕ) → x ≡ c → hit c x ≡ 1
hit_yes c x e = cond-true (x == c) 1 0 (eq-eqb x c e)

pub hit_no : (c x : ℕ) → (x ≢ c) → hit c x ≡ 0
hit_no c x ne = cond-false (x == c) 1 0 (ne_eqb x c ne)

-- a slot that goes from old to new moves one holder
pub holders_set : (c s new : ℕ) (t : List ℕ) → s < length t → holders c (slice_set t s new) + hit c (slice_index t s) ≡ holders c t + hit c new
holders_set c s new t lt = sum_by-set (hit c) t s new 0 lt

pub holders_empty : (c k : ℕ) → 1 ≤ c → holders c (replicate k 0) ≡ 0
holders_empty c zero h = refl
holders_empty c (suc k) h =
    sum_by-cons (hit c) 0 (replicate k 0) ∙ (let e = hit_no c 0 (λ (z : 0 ≡ c). omega arith) in let ih = holders_empty c k h in omega arith)

pub table_empty : (n : ℕ) → Table n (replicate (4 * n) 0)
table_empty n = record {
  size = long;
  contents = λ s. ⊎_elim
      (λ (lt : s < 4 * n). subst (λ (x : ℕ). x ≤ n) (sym (get_or-replicate (4 * n) s 0 0 lt)) (omega arith))
      (λ (le : 4 * n ≤ s). subst (λ (x : ℕ). x ≤ n) (sym (get_or_past (replicate (4 * n) 0) s 0 (omega (arith, long)))) (omega arith))
      (cases_lt s (4 * n));
}
  where
    long : length {A = ℕ} (replicate (4 * n) 0) ≡ 4 * n
    long = length-replicate (4 * n) 0

pub table_set : (n s x : ℕ) (t : List ℕ) → Table n t → x ≤ n → Table n (slice_set t s x)
table_set n s x t ok le = record {
  size = length-set t s x ∙ ok.size;
  contents = λ i. ⊎_elim
      (λ (e : i ≡ s). ⊎_elim
      (λ (lt : s < length t). subst (λ (y : ℕ). y ≤ n) (sym (ap (λ (j : ℕ). slice_index (slice_set t s x) j) e ∙ get_or-set_same t s x 0 lt)) le)
      (λ (ge : length t ≤ s). subst (λ (y : ℕ). y ≤ n) (sym (get_or_past (slice_set t s x) i 0 (omega (arith, length-set t s x)))) (omega arith))
      (cases_lt s (length t)))
      (λ (ne : i ≡ s → ⊥). subst (λ (y : ℕ). y ≤ n) (sym (get_or-set_other t s i x 0 ne)) (ok.contents i))
      (cases_eq i s);
}

-- whether a note is in range is decided
pub decide_range : (n s old new : ℕ) → ((s < 4 * n) × (old ≤ n) × (new ≤ n)) ⊎ ((s < 4 * n) × (old ≤ n) × (new ≤ n) → ⊥)
decide_range n s old new =
    ⊎_elim
    (λ (slot : s < 4 * n). ⊎_elim
    (λ (out : n < old). inr (λ range. let le = range.1 in omega arith))
    (λ (was : old ≤ n). ⊎_elim
    (λ (out : n < new). inr (λ range. let le = range.2 in omega arith))
    (λ (is : new ≤ n). inl (slot, was, is))
    (cases_lt n new))
    (cases_lt n old))
    (λ (out : 4 * n ≤ s). inr (λ range. let lt = range.0 in omega arith))
    (cases_lt s (4 * n))
