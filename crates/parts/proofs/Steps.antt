-- What a drawing shows after one more description. Assumes nothing.
use Rattle.std.proofs.Common.{◌≡◌, ℕ, ◌+◌, ◌-◌, ◌*◌, ◌<◌, ◌≤◌, Bool, true, false, ◌||◌, ◌≢◌, List, [], ◌∷◌, ◌++◌, length, get_or, fold, sym, refl, ap, ◌∙◌, subst, ⊎_elim, add-one, arith}
use Rattle.std.specs.List.{list_any, ContainsAt as Has, AllByRecursion}
use Rattle.std.specs.Str.{bytes_eq}
use Rattle.std.proofs.ByRecursion.{All-push, All-weaker}
use Rattle.std.proofs.lemmas.List.{get_or_append_left, get_or_past}
use Rattle.std.proofs.lemmas.Bool.{cases_lt, cases_eq, or_parts, or_right}
use Rattle.parts.specs.Building.{added, about}
use Rattle.parts.specs.Drawn.{subject, Called, content, Placed, Drawn}
use Rattle.parts.specs.Text.{Bytes}
use Rattle.parts.proofs.Firsts.{same_yes, same_no, differ, Distinct, firsts_more, folded_more, folded_long, called_as, called_folded, called_once, called_has, has_called, has_folded}

all_both : {X : Type 0} (P Q : X → Type 0) (xs : List X) → AllByRecursion P xs → AllByRecursion Q xs → AllByRecursion (λ x. P x × Q x) xs
all_both P Q [] p q = tt
all_both P Q (x ∷ xs) p q = ((p.0, q.0), all_both P Q xs p.1 q.1)

all_front : {X : Type 0} (P : X → Type 0) (xs : List X) (x : X) → AllByRecursion P (xs ++ x ∷ []) → AllByRecursion P xs × P x
all_front P [] x h = (tt, h.0)
all_front P (y ∷ xs) x h = let rest = all_front P xs x h.1 in ((h.0, rest.0), rest.1)

or_none : (b : Bool) → (b || false) ≡ b
or_none true = refl
or_none false = refl

or_assoc : (a b c : Bool) → (a || (b || c)) ≡ ((a || b) || c)
or_assoc true b c = refl
or_assoc false b c = refl

any_push : {X : Type 0} (p : X → Bool) (xs : List X) (x : X) → list_any p (xs ++ x ∷ []) ≡ (list_any p xs || p x)
any_push p [] x = or_none (p x)
any_push p (y ∷ xs) x = ap (λ b. p y || b) (any_push p xs x) ∙ or_assoc (p y) (list_any p xs) (p x)

-- no description is about a name that is no part
pub about_unknown : (names : List Bytes) (w : Bytes) (ds : List (List Bytes)) → AllByRecursion (λ d. Has names (subject d)) ds → (Has names w → ⊥) → about w ds ≡ false
about_unknown names w [] h n = refl
about_unknown names w (d ∷ ds) h n =
    let apart : bytes_eq (subject d) w ≡ false = same_no (subject d) w (λ e. n (subst (Has names) e h.0)) in
    rw apart (about_unknown names w ds h.1 n)

pub about_none : (w : Bytes) (ds : List (List Bytes)) → about w ds ≡ false → AllByRecursion (λ d. subject d ≢ w) ds
about_none w [] f = tt
about_none w (d ∷ ds) f = let both = or_parts (bytes_eq (subject d) w) (about w ds) f in (differ (subject d) w both.0, about_none w ds both.1)

-- A description of part `part`, with the name w and the references rest, is added to the others.
pub record Step (ds : List (List Bytes)) (w : Bytes) (rest : List Bytes) (part : ℕ) (names names' : List Bytes) (slots slots' : List ℕ) : Type 0 where
  pub named : names' ≡ fold added names (w ∷ rest)
  pub apart : Distinct names'
  pub called : Called names' part w
  pub fresh : about w ds ≡ false
  pub fits : length rest ≤ 4
  pub size : length slots' ≡ 4 * length names'
  pub filled : (f : ℕ) → f < length rest → Called names' (content slots' part f) (get_or rest f [])
  pub others : (i : ℕ) → ((f : ℕ) → f < length rest → i ≡ 4 * (part - 1) + f → ⊥) → get_or slots' i 0 ≡ get_or slots i 0

module _ {ds : List (List Bytes)} {w : Bytes} {rest : List Bytes} {part : ℕ} {names names' : List Bytes} {slots slots' : List ℕ}
    (old : Drawn ds names slots) (subjects : AllByRecursion (λ d. Has names (subject d)) ds) (step : Step ds w rest part names names' slots slots') where
  longer : length names ≤ length names'
  longer = omega (arith, ap length step.named, folded_long names (w ∷ rest))

  pub front : (k : ℕ) → k < length names → get_or names' k [] ≡ get_or names k []
  front k h =
      let more = folded_more names (w ∷ rest) in
      ap (λ l. get_or l k []) (step.named ∙ more.1) ∙ get_or_append_left names more.0 [] k h

  called_still : (c : ℕ) (v : Bytes) → Called names c v → Called names' c v
  called_still c v h = subst (λ l. Called l c v) (sym step.named) (called_folded names (w ∷ rest) c v h)

  -- another part's slots are as they were
  kept : (c f : ℕ) → 1 ≤ c → (c ≡ part → ⊥) → f < 4 → content slots' c f ≡ content slots c f
  kept c f some n h = step.others (4 * (c - 1) + f) (λ g l e. n (omega (arith, e, l, h, some, step.called.0, step.fits)))

  none_past : (c f : ℕ) → length names < c → content slots c f ≡ 0
  none_past c f h = get_or_past slots (4 * (c - 1) + f) 0 (omega (arith, h, old.size))

  placed_still : (d : List Bytes) → Placed names slots d × (Has names (subject d) × (subject d ≢ w)) → Placed names' slots' d
  placed_still d h c f called small =
      let was = called_has names (subject d) h.1.0 in
      let same = called_once names' step.apart was.0 c (subject d) (called_still was.0 (subject d) was.1) called in
      let other : c ≡ part → ⊥ = λ e. h.1.1 (sym called.2 ∙ ap (λ k. get_or names' (k - 1) []) e ∙ step.called.2) in
      let slot = kept c f called.0 other small in
      let told = h.0 c f (called_as refl same refl was.1) small in
      (λ l. called_as refl (sym slot) refl (called_still _ _ (told.0 l)), λ l. slot ∙ told.1 l)

  -- the part was not described before
  empty_before : (f : ℕ) → f < 4 → content slots part f ≡ 0
  empty_before f small =
      ⊎_elim (none_past part f)
      (λ known.
      let name = sym (front (part - 1) (omega (arith, known, step.called.0))) ∙ step.called.2 in
      old.bare part step.called.0 known (subst (λ v. AllByRecursion (λ d. subject d ≢ v) ds) (sym name) (about_none w ds step.fresh)) f small)
      (cases_lt (length names) part)

  placed_new : Placed names' slots' (w ∷ rest)
  placed_new c f called small =
      let same = called_once names' step.apart part c w step.called called in
      let slot = ap (λ k. content slots' k f) same in (
        λ l. called_as refl slot (sym (ap (λ k. get_or (w ∷ rest) k []) (add-one f))) (step.filled f (omega (arith, l))),
        λ l. sym slot ∙ step.others (4 * (part - 1) + f) (λ g h e. omega (arith, l, h, e)) ∙ empty_before f small,
      )

  bare_still : (c : ℕ) → 1 ≤ c → c ≤ length names' → AllByRecursion (λ d. subject d ≢ get_or names' (c - 1) []) (ds ++ (w ∷ rest) ∷ []) → (f : ℕ) → f < 4 → content slots' c f ≡ 0
  bare_still c some is none f small =
      let both = all_front (λ d. subject d ≢ get_or names' (c - 1) []) ds (w ∷ rest) none in
      let other : c ≡ part → ⊥ = λ e. both.1 (sym step.called.2 ∙ ap (λ k. get_or names' (k - 1) []) (sym e)) in
      kept c f some other small
      ∙ ⊎_elim (none_past c f)
      (λ known. old.bare c some known (subst (λ v. AllByRecursion (λ d. subject d ≢ v) ds) (front (c - 1) (omega (arith, known, some))) both.0) f small)
      (cases_lt (length names) c)

  pub drawn_more : Drawn (ds ++ (w ∷ rest) ∷ []) names' slots'
  drawn_more = record {
    named = step.named ∙ ap (λ l. fold added l (w ∷ rest)) old.named ∙ sym (firsts_more ds (w ∷ rest));
    size = step.size;
    placed =
        All-push (Placed names' slots') ds (w ∷ rest)
        (All-weaker (λ d. Placed names slots d × (Has names (subject d) × (subject d ≢ w))) (Placed names' slots') placed_still ds
        (all_both _ _ ds old.placed (all_both _ _ ds subjects (about_none w ds step.fresh))))
        placed_new;
    bare = bare_still;
  }

  pub subjects_more : AllByRecursion (λ d. Has names' (subject d)) (ds ++ (w ∷ rest) ∷ [])
  subjects_more =
      All-push (λ d. Has names' (subject d)) ds (w ∷ rest)
      (All-weaker (λ d. Has names (subject d)) (λ d. Has names' (subject d)) (λ d h. subst (λ l. Has l (subject d)) (sym step.named) (has_folded names (w ∷ rest) (subject d) h)) ds subjects)
      (has_called names' part w step.called)

  pub within_more : ((i : ℕ) → get_or slots i 0 ≤ length names) → (i : ℕ) → get_or slots' i 0 ≤ length names'
  within_more within i =
      let outside : ((f : ℕ) → f < length rest → i ≡ 4 * (part - 1) + f → ⊥) → get_or slots' i 0 ≤ length names' = λ n. omega (arith, step.others i n, within i, longer) in
      ⊎_elim (λ l. outside (λ f h e. omega arith))
      (λ g. ⊎_elim
      (λ l.
      let f = i - 4 * (part - 1) in
      let back : 4 * (part - 1) + f ≡ i = omega arith in
      omega (arith, (step.filled f (omega arith)).1, ap (λ k. get_or slots' k 0) back))
      (λ l. outside (λ f h e. omega arith))
      (cases_lt i (4 * (part - 1) + length rest)))
      (cases_lt i (4 * (part - 1)))

  module _ (marks marks' : List Bool) (many : length marks ≡ length names)
      (told : (k : ℕ) → k < length names → get_or marks k false ≡ about (get_or names k []) ds)
      (same : (k : ℕ) → (k ≡ part - 1 → ⊥) → get_or marks' k false ≡ get_or marks k false) (marked : get_or marks' (part - 1) false ≡ true) where
    -- a part that this description is not about
    told_other : (k : ℕ) → k < length names' → get_or marks k false ≡ about (get_or names' k []) ds
    told_other k h =
        ⊎_elim (λ l. told k l ∙ ap (λ v. about v ds) (sym (front k l)))
        (λ g.
        let unknown : Has names (get_or names' k []) → ⊥ =
        λ was. let one = step.apart was.0 k (omega (arith, was.1, longer)) h (front was.0 was.1 ∙ was.2 []) in omega (arith, one, was.1, g) in
        get_or_past marks k false (omega (arith, many, g)) ∙ sym (about_unknown names (get_or names' k []) ds subjects unknown))
        (cases_lt k (length names))

    pub told_more : (k : ℕ) → k < length names' → get_or marks' k false ≡ about (get_or names' k []) (ds ++ (w ∷ rest) ∷ [])
    told_more k h =
        let v = get_or names' k [] in
        let split = any_push (λ d. bytes_eq (subject d) v) ds (w ∷ rest) in
        ⊎_elim
        (λ e.
        let name : w ≡ v = sym step.called.2 ∙ ap (λ j. get_or names' j []) (sym e) in
        ap (λ j. get_or marks' j false) e ∙ marked ∙ sym (split ∙ or_right (about v ds) (bytes_eq w v) (same_yes w v name)))
        (λ n.
        let apart : bytes_eq w v ≡ false =
        same_no w v (λ e. n (sym (step.apart (part - 1) k (omega (arith, step.called.0, step.called.1)) h (step.called.2 ∙ e)))) in
        same k n ∙ told_other k h ∙ sym (split ∙ ap (λ b. about v ds || b) apart ∙ or_none (about v ds)))
        (cases_eq k (part - 1))
