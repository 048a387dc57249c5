-- What holds of every place of a list.
use Rattle.std.proofs.Common.{◌≡◌, ℕ, ◌≤◌, Bool, true, false, List, length, get_or, set, replicate, sym, ap, ◌∙◌, subst, ⊎_elim, arith, get_or-set_other, get_or-set_same}
use lib.ListN.{get_or-replicate, length-replicate}
use Rattle.heap.specs.Within.{Within}
use Rattle.std.proofs.lemmas.List.{get_or_past, set_past}
use Rattle.std.proofs.lemmas.Bool.{cases_eq, cases_lt}

pub each_set : {A : Type 0} (P : A → Type 0) (d : A) (i : ℕ) (v : A) (xs : List A) → ((k : ℕ) → P (get_or xs k d)) → P v → (k : ℕ) → P (get_or (set xs i v) k d)
each_set {A} P d i v xs h w k =
    ⊎_elim
    (λ l. ⊎_elim
    (λ e. subst P (sym (ap (λ (j : ℕ). get_or (set xs i v) j d) e ∙ get_or-set_same xs i v d l)) w)
    (λ ne. subst P (sym (get_or-set_other xs i k v d ne)) (h k)) (cases_eq k i))
    (λ l. subst P (ap (λ (ys : List A). get_or ys k d) (sym (set_past xs i v l))) (h k)) (cases_lt i (length xs))

-- A list of one value, which stands past its end too.
pub each_same : {A : Type 0} (m k : ℕ) (v : A) → get_or (replicate m v) k v ≡ v
each_same {A} m k v =
    ⊎_elim (λ h. get_or-replicate {A = A} m k v v h)
    (λ h. let l : length {A = A} (replicate m v) ≤ k = omega (arith, length-replicate {A = A} m v) in get_or_past (replicate m v) k v l) (cases_lt k m)

-- A flag that is set stays so when another, or the same, is.
pub set_flag : (xs : List Bool) (i k : ℕ) → get_or xs k false ≡ true → get_or (set xs i true) k false ≡ true
set_flag xs i k h =
    ⊎_elim
    (λ l. ⊎_elim (λ e. ap (λ (j : ℕ). get_or (set xs i true) j false) e ∙ get_or-set_same xs i true false l) (λ ne. get_or-set_other xs i k true false ne ∙ h) (cases_eq k i))
    (λ l. ap (λ (ys : List Bool). get_or ys k false) (set_past xs i true l) ∙ h) (cases_lt i (length xs))

pub within_none : (m n : ℕ) → Within n (replicate m 0)
within_none m n k = omega (arith, each_same {A = ℕ} m k 0)
