-- Names in order of first mention, as they are added one by one. Assumes nothing.
use Rattle.std.proofs.Common.{◌≡◌, ℕ, ◌+◌, ◌-◌, ◌<◌, ◌≤◌, true, false, cond, not, ◌||◌, List, [], ◌∷◌, ◌++◌, length, get_or, take, drop, Decides, fold, filter, sym, refl, ap, ◌∙◌, subst, ⊎_elim, append_assoc, append-nil, arith, length-append, take-append-drop}
use Rattle.std.specs.List.{list_any, ContainsAt as Has}
use Rattle.std.specs.Str.{bytes_eq}
use Rattle.std.proofs.lemmas.List.Elements.{filter-append}
use Rattle.std.proofs.ByRecursion.{has_get_or, has_append_left}
use Rattle.std.proofs.lemmas.Slice.Eq.{bytes_eq-Decides}
use Rattle.std.proofs.lemmas.List.{get_or_append_left, get_or_push, length_push, flat_map_more}
use Rattle.std.proofs.lemmas.Bool.{cases_Bool, cases_lt, true≢false, cond-true, cond-false, cond_both}
use Rattle.std.proofs.lemmas.Bool.Decides.{Decides-by_or}
use Rattle.parts.specs.Text.{Bytes}
use Rattle.parts.specs.Drawn.{mentions, firsts, Called}
use Rattle.parts.specs.Building.{added}

pub same_yes : (v w : Bytes) → v ≡ w → bytes_eq v w ≡ true
same_yes v w e = (bytes_eq-Decides v w).1 e

pub same_no : (v w : Bytes) → (v ≡ w → ⊥) → bytes_eq v w ≡ false
same_no v w n = ⊎_elim (λ t. absurd (n ((bytes_eq-Decides v w).0 t))) (λ f. f) (cases_Bool (bytes_eq v w))

pub differ : (v w : Bytes) → bytes_eq v w ≡ false → v ≡ w → ⊥
differ v w f e = true≢false (sym (same_yes v w e) ∙ f)

pub among_decides : (names : List Bytes) (w : Bytes) → Decides (list_any (λ v. bytes_eq v w) names) (Has names w)
among_decides names w = Decides-by_or (λ v. bytes_eq v w) (λ v. v ≡ w) (list_any (λ v. bytes_eq v w)) (λ v. bytes_eq-Decides v w) refl (λ _ _. refl) names

-- a name is known already
pub added_known : (names : List Bytes) (w : Bytes) → Has names w → added names w ≡ names
added_known names w h = cond-true (list_any (λ v. bytes_eq v w) names) names (names ++ w ∷ []) ((among_decides names w).1 h)

pub unknown : (names : List Bytes) (w : Bytes) → (Has names w → ⊥) → list_any (λ v. bytes_eq v w) names ≡ false
unknown names w n = ⊎_elim (λ t. absurd (n ((among_decides names w).0 t))) (λ f. f) (cases_Bool (list_any (λ v. bytes_eq v w) names))

pub added_new : (names : List Bytes) (w : Bytes) → (Has names w → ⊥) → added names w ≡ names ++ w ∷ []
added_new names w n = cond-false (list_any (λ v. bytes_eq v w) names) names (names ++ w ∷ []) (unknown names w n)

-- a name more, among the names that are not m
module _ (m w : Bytes) where
  abbrev others : List Bytes → List Bytes
  others names = filter (λ v. not (bytes_eq v m)) names

  others_added_same : (names : List Bytes) → bytes_eq w m ≡ true → others (added names w) ≡ others names
  others_added_same names e =
      cond_both (list_any (λ v. bytes_eq v w) names) names (names ++ w ∷ []) (λ l. others l ≡ others names) (λ _. refl)
      (λ _. filter-append (λ v. not (bytes_eq v m)) names (w ∷ []) ∙ ap (λ b. others names ++ cond (not b) (w ∷ []) []) e ∙ append-nil (others names))

  among_others : (names : List Bytes) → bytes_eq m w ≡ false → list_any (λ v. bytes_eq v w) (others names) ≡ list_any (λ v. bytes_eq v w) names
  among_others [] f = refl
  among_others (v ∷ names) f =
      let rest = among_others names f in
      ⊎_elim
      (λ e.
      let n : bytes_eq v w ≡ false = same_no v w (λ q. differ m w f (sym ((bytes_eq-Decides v m).0 e) ∙ q)) in
      rw (e, n) rest)
      (λ e. rw e (ap (λ b. bytes_eq v w || b) rest))
      (cases_Bool (bytes_eq v m))

  others_added : (names : List Bytes) → (m ∷ others (added names w)) ≡ added (m ∷ others names) w
  others_added names = ⊎_elim yes' no' (cases_Bool (bytes_eq m w))
    where
      yes' : bytes_eq m w ≡ true → (m ∷ others (added names w)) ≡ added (m ∷ others names) w
      yes' e = rw e (ap (λ l. m ∷ l) (others_added_same names (same_yes w m (sym ((bytes_eq-Decides m w).0 e)))))

      no' : bytes_eq m w ≡ false → (m ∷ others (added names w)) ≡ added (m ∷ others names) w
      no' f =
          let apart : bytes_eq w m ≡ false = same_no w m (λ q. differ m w f (sym q)) in
          let kept = among_others names f in
          ⊎_elim
          (λ e. let k : list_any (λ v. bytes_eq v w) (others names) ≡ true = kept ∙ e in rw (f, e, k) refl)
          (λ e. let k : list_any (λ v. bytes_eq v w) (others names) ≡ false = kept ∙ e in
          rw (f, e, k) (ap (λ l. m ∷ l) (filter-append (λ v. not (bytes_eq v m)) names (w ∷ []) ∙ ap (λ b. others names ++ cond (not b) (w ∷ []) []) apart)))
          (cases_Bool (list_any (λ v. bytes_eq v w) names))

pub firsts_push : (ms : List Bytes) (w : Bytes) → firsts (ms ++ w ∷ []) ≡ added (firsts ms) w
firsts_push [] w = refl
firsts_push (m ∷ ms) w = ap (λ l. m ∷ others m w l) (firsts_push ms w) ∙ others_added m w (firsts ms)

pub firsts_append : (ms ws : List Bytes) → firsts (ms ++ ws) ≡ fold added (firsts ms) ws
firsts_append ms [] = ap firsts (append-nil ms)
firsts_append ms (w ∷ ws) =
    ap firsts (sym (append_assoc ms (w ∷ []) ws)) ∙ firsts_append (ms ++ w ∷ []) ws ∙ ap (λ l. fold added l ws) (firsts_push ms w)

pub mentions_push : (ds : List (List Bytes)) (ws : List Bytes) → mentions (ds ++ ws ∷ []) ≡ mentions ds ++ ws
mentions_push ds ws = sym (flat_map_more (λ (l : List Bytes). l) [] ds ws)

-- the names after one more description
pub firsts_more : (ds : List (List Bytes)) (ws : List Bytes) → firsts (mentions (ds ++ ws ∷ [])) ≡ fold added (firsts (mentions ds)) ws
firsts_more ds ws = ap firsts (mentions_push ds ws) ∙ firsts_append (mentions ds) ws

-- no name stands at two places
abbrev pub Distinct : List Bytes → Type 0
Distinct names = (i j : ℕ) → i < length names → j < length names → get_or names i [] ≡ get_or names j [] → i ≡ j

distinct_push : (names : List Bytes) (w : Bytes) → Distinct names → (Has names w → ⊥) → Distinct (names ++ w ∷ [])
distinct_push names w d n i j hi hj e =
    let long = length_push names w in
    let in_place : (k : ℕ) → k < length names → get_or (names ++ w ∷ []) k [] ≡ get_or names k [] = λ k h. get_or_append_left names (w ∷ []) [] k h in
    let last : (k : ℕ) → k < length (names ++ w ∷ []) → length names ≤ k → get_or (names ++ w ∷ []) k [] ≡ w = λ k h l. get_or_push names w [] k (omega arith) in
    let old : (k : ℕ) → k < length names → get_or names k [] ≡ w → ⊥ = λ k h q. n (subst (Has names) q (has_get_or names k [] h)) in
    ⊎_elim
    (λ li. ⊎_elim (λ lj. d i j li lj (sym (in_place i li) ∙ e ∙ in_place j lj)) (λ gj. absurd (old i li (sym (in_place i li) ∙ e ∙ last j hj gj))) (cases_lt j (length names)))
    (λ gi. ⊎_elim (λ lj. absurd (old j lj (sym (in_place j lj) ∙ sym e ∙ last i hi gi))) (λ gj. omega arith) (cases_lt j (length names)))
    (cases_lt i (length names))

distinct_added : (names : List Bytes) (w : Bytes) → Distinct names → Distinct (added names w)
distinct_added names w d =
    ⊎_elim
    (λ e. subst Distinct (sym (cond-true _ names (names ++ w ∷ []) e)) d)
    (λ e. subst Distinct (sym (cond-false _ names (names ++ w ∷ []) e)) (distinct_push names w d (λ h. true≢false (sym ((among_decides names w).1 h) ∙ e))))
    (cases_Bool (list_any (λ v. bytes_eq v w) names))

distinct_folded : (names ws : List Bytes) → Distinct names → Distinct (fold added names ws)
distinct_folded names [] d = d
distinct_folded names (w ∷ ws) d = distinct_folded (added names w) ws (distinct_added names w d)

pub distinct_firsts : (ms : List Bytes) → Distinct (firsts ms)
distinct_firsts ms = subst Distinct (sym (firsts_append [] ms)) (distinct_folded [] ms (λ i j h. absurd (omega arith)))

-- names only grow at the end
pub added_more : (names : List Bytes) (w : Bytes) → (more : List Bytes) × (added names w ≡ names ++ more)
added_more names w =
    ⊎_elim
    (λ e. ([], cond-true _ names (names ++ w ∷ []) e ∙ sym (append-nil names)))
    (λ e. (w ∷ [], cond-false _ names (names ++ w ∷ []) e))
    (cases_Bool (list_any (λ v. bytes_eq v w) names))

pub folded_more : (names ws : List Bytes) → (more : List Bytes) × (fold added names ws ≡ names ++ more)
folded_more names [] = ([], sym (append-nil names))
folded_more names (w ∷ ws) =
    let one = added_more names w in
    let rest = folded_more (added names w) ws in
    (one.0 ++ rest.0, rest.1 ∙ ap (λ l. l ++ rest.0) one.1 ∙ append_assoc names one.0 rest.0)

pub folded_append : (names ws vs : List Bytes) → fold added names (ws ++ vs) ≡ fold added (fold added names ws) vs
folded_append names [] vs = refl
folded_append names (w ∷ ws) vs = folded_append (added names w) ws vs

pub folded_long : (names ws : List Bytes) → length names ≤ length (fold added names ws)
folded_long names ws = let more = folded_more names ws in omega (arith, ap length more.1 ∙ length-append names more.0)

-- fewer names are mentioned by the front of a line than by the line
pub folded_take : (names ws : List Bytes) (i : ℕ) → length (fold added names (take i ws)) ≤ length (fold added names ws)
folded_take names ws i =
    let whole = ap (fold added names) (sym (take-append-drop i ws)) ∙ folded_append names (take i ws) (drop i ws) in
    omega (arith, ap length whole, folded_long (fold added names (take i ws)) (drop i ws))

pub called_as : {names names' : List Bytes} {c c' : ℕ} {w w' : Bytes} → names ≡ names' → c ≡ c' → w ≡ w' → Called names c w → Called names' c' w'
called_as {names} {names'} {c} {c'} {w} {w'} n e q h =
    subst (λ l. Called l c' w') n (subst (λ k. Called names k w') e (subst (λ v. Called names c v) q h))

-- a part keeps its number
pub called_more : (names more : List Bytes) (c : ℕ) (w : Bytes) → Called names c w → Called (names ++ more) c w
called_more names more c w h =
    (h.0, omega (arith, h.1, length-append names more), get_or_append_left names more [] (c - 1) (omega (arith, h.0, h.1)) ∙ h.2)

pub called_folded : (names ws : List Bytes) (c : ℕ) (w : Bytes) → Called names c w → Called (fold added names ws) c w
called_folded names ws c w h = let more = folded_more names ws in subst (λ l. Called l c w) (sym more.1) (called_more names more.0 c w h)

pub has_folded : (names ws : List Bytes) (w : Bytes) → Has names w → Has (fold added names ws) w
has_folded names ws w h = let more = folded_more names ws in subst (λ l. Has l w) (sym more.1) (has_append_left names more.0 w h)

-- a name has one number
pub called_once : (names : List Bytes) → Distinct names → (c e : ℕ) (w : Bytes) → Called names c w → Called names e w → c ≡ e
called_once names d c e w hc he =
    let same = d (c - 1) (e - 1) (omega (arith, hc.0, hc.1)) (omega (arith, he.0, he.1)) (hc.2 ∙ sym he.2) in
    omega (arith, same, hc.0, he.0)

pub has_called : (names : List Bytes) (c : ℕ) (w : Bytes) → Called names c w → Has names w
has_called names c w h = subst (Has names) h.2 (has_get_or names (c - 1) [] (omega (arith, h.0, h.1)))

pub called_has : (names : List Bytes) (w : Bytes) → Has names w → (c : ℕ) × Called names c w
called_has names w h =
    let back : h.0 + 1 - 1 ≡ h.0 = omega arith in
    (h.0 + 1, (omega arith, omega (arith, h.1), ap (λ k. get_or names k []) back ∙ h.2 []))
