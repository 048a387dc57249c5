-- How kept tokens and open holds go together.
use Rattle.std.proofs.Common.{◌≡◌, ◌≢◌, ℕ, ◌+◌, ◌<◌, ◌≤◌, Bool, true, false, cond, not, ◌&&◌, eqb, ltb, List, [], ◌∷◌, ◌++◌, length, get_or, set, replicate, Some, None, Result, Ok, Err, sym, refl, ap, ◌∙◌, ⊎_elim, arith}
use Rattle.std.proofs.lemmas.Bool.Decides.{nat_tests}
use Rattle.std.proofs.lemmas.Bool.{and_from, and_parts, cases_lt, eq-eqb, eqb-true, ltb-true}
use Rattle.std.proofs.lemmas.List.{get_or-replicate, get_or-set_other, get_or-set_same, length-set, length-replicate}
use Rattle.std.proofs.lemmas.List.Sums.{sum_by_push, sum_by-swap_remove}
use Rattle.std.proofs.Math.ListN.{get_or-eq_default}
use Rattle.std.specs.List.{swap_remove}
use Rattle.heap.specs.Calls.{Clear, Copy, Load, Lowest, New, Size, Store, open_token, release_checks, with_hold}
use Rattle.heap.specs.Refusals.{cause_of}
use Rattle.heap.specs.States.{State, sized, state}
use Rattle.heap.specs.declared.heap.Heap.{Heap}
use Rattle.heap.specs.declared.token.Token.{Token}
use Rattle.ledgers.specs.Meaning.{Ops}
use Rattle.refusals.specs.declared.refusal.Refusal.{Refusal}
use Rattle.trials.specs.Tokens.{Balanced, NoneOpen, is_like, kept_like, times_open}
use Rattle.trials.specs.declared.kept.Kept.{Kept}

-- What is open is read in the holds alone.
pub same_open : (t : Token) (s s' : State) → s'.graph.holds ≡ s.graph.holds → times_open t s' ≡ times_open t s
unfolding times_open
same_open t s s' e = ap (λ (hs : List ℕ). cond (ltb 0 t.cell && eqb (get_or hs t.hold 0) t.cell) 1 0) e

pub kept_none : (t : Token) (ks : List Kept) → length ks ≡ 0 → kept_like t ks ≡ 0
unfolding kept_like
kept_none t [] e = refl
kept_none t (k ∷ ks) e = absurd (omega arith)

kept_push : (t : Token) (ks : List Kept) (k : Kept) → kept_like t (ks ++ k ∷ []) ≡ kept_like t ks + cond (is_like t k.token) 1 0
unfolding kept_like
kept_push t ks k = sum_by_push (λ (k : Kept). cond (is_like t k.token) 1 0) ks k

pub balanced_at_first : (ks : List Kept) (s s' : State) → ks ≡ [] → NoneOpen s → NoneOpen s' → Balanced ks s s'
balanced_at_first ks s s' e none none' = λ t. omega (arith, kept_none t ks (ap length e), none t, none' t)

pub kept_popped : (t : Token) (ks ks' : List Kept) (k : Kept) → ks ≡ ks' ++ k ∷ [] → kept_like t ks ≡ kept_like t ks' + cond (is_like t k.token) 1 0
kept_popped t ks ks' k e = ap (kept_like t) e ∙ kept_push t ks' k

pub kept_taken : (t : Token) (ks : List Kept) (i : ℕ) (k : Kept) → i < length ks → k ≡ get_or ks i k → kept_like t (swap_remove ks i k) + cond (is_like t k.token) 1 0 ≡ kept_like t ks
unfolding kept_like
kept_taken t ks i k h e =
    ap (λ (x : Kept). kept_like t (swap_remove ks i k) + cond (is_like t x.token) 1 0) e ∙ sum_by-swap_remove (λ (k : Kept). cond (is_like t k.token) 1 0) ks i k h

-- A hold k that was empty comes to contain u. In the hold j stood x, and then y.
fills : (j k c u x y : ℕ) → (j ≢ k → y ≡ x) → (j ≡ k → x ≡ 0) → (j ≡ k → y ≡ u) → 0 < u → cond (ltb 0 c && eqb y c) 1 0 ≡ cond (ltb 0 c && eqb x c) 1 0 + cond (eqb k j && eqb u c) 1 0
fills j k c u x y other before after h = grind (arith, nat_tests)

holds_open : (s : State) (u : Token) → open_token s u ≡ true → (0 < u.cell) × (get_or s.graph.holds u.hold 0 ≡ u.cell)
holds_open s u e =
    let p = and_parts (ltb 0 u.cell) (eqb (get_or s.graph.holds u.hold 0) u.cell) e in
    (ltb-true 0 u.cell p.0, eqb-true (get_or s.graph.holds u.hold 0) u.cell p.1)

pub hold_opens : (t u : Token) (s s' : State) (c : ℕ) → s' ≡ with_hold s u.hold c → Lowest s u.hold → open_token s' u ≡ true → times_open t s' ≡ times_open t s + cond (is_like t u) 1 0
unfolding times_open
hold_opens t u s s' c e low is_open =
    let hs = s.graph.holds in
    let hs' = s'.graph.holds in
    let put : hs' ≡ set hs u.hold c = ap (λ (z : State). z.graph.holds) e in
    let opened = holds_open s' u is_open in
    fills t.hold u.hold t.cell u.cell (get_or hs t.hold 0) (get_or hs' t.hold 0)
    (λ n. ap (λ (l : List ℕ). get_or l t.hold 0) put ∙ get_or-set_other hs u.hold t.hold c 0 n)
    (λ q. ap (λ (j : ℕ). get_or hs j 0) q ∙ low.empty)
    (λ q. ap (λ (j : ℕ). get_or hs' j 0) q ∙ opened.1)
    opened.0

emptied : (l : List ℕ) (k : ℕ) → get_or (set l k 0) k 0 ≡ 0
emptied l k = ⊎_elim (λ (h : k < length l). get_or-set_same l k 0 0 h) (λ (h : length l ≤ k). get_or-eq_default (set l k 0) 0 (omega (arith, length-set l k 0, h))) (cases_lt k (length l))

pub release_shuts : (t u : Token) (s s' : State) → s' ≡ with_hold s u.hold 0 → open_token s u ≡ true → times_open t s ≡ times_open t s' + cond (is_like t u) 1 0
unfolding times_open
release_shuts t u s s' e is_open =
    let hs = s.graph.holds in
    let hs' = s'.graph.holds in
    let put : hs' ≡ set hs u.hold 0 = ap (λ (z : State). z.graph.holds) e in
    let opened = holds_open s u is_open in
    fills t.hold u.hold t.cell u.cell (get_or hs' t.hold 0) (get_or hs t.hold 0)
    (λ n. sym (ap (λ (l : List ℕ). get_or l t.hold 0) put ∙ get_or-set_other hs u.hold t.hold 0 0 n))
    (λ q. ap (λ (j : ℕ). get_or hs' j 0) q ∙ (ap (λ (l : List ℕ). get_or l u.hold 0) put ∙ emptied hs u.hold))
    (λ q. ap (λ (j : ℕ). get_or hs j 0) q ∙ opened.1)
    opened.0

-- The tests of a release, and of a size.
open_passed : (a b : Bool) (x y : Refusal) → cond a (Some x) (cond (not b) (Some y) None) ≡ None → b ≡ true
open_passed true b x y e = absurd cc
open_passed false true x y e = refl
open_passed false false x y e = absurd cc

pub open_from : (s : State) (t : Token) → cause_of (release_checks s t) ≡ None → open_token s t ≡ true
open_from s t e = open_passed (eqb s.graph.cells 0) (open_token s t) _ _ e

passes : (a b : Bool) (x y : Refusal) → a ≡ false → b ≡ true → cond a (Some x) (cond (not b) (Some y) None) ≡ None
passes true b x y e f = absurd cc
passes false true x y e f = refl
passes false false x y e f = absurd cc

ne_zero : (n : ℕ) → 0 < n → eqb n 0 ≡ false
ne_zero n h = grind (arith, nat_tests)

-- A heap with an open token has cells.
pub may_release : (h : Heap) (t : Token) → open_token (state h) t ≡ true → cause_of (release_checks (state h) t) ≡ None
may_release h t e =
    let opened = holds_open (state h) t e in
    let bound = h.holds t.hold in
    passes (eqb h.graph.n 0) (open_token (state h) t) _ _ (ne_zero h.graph.n (omega (arith, opened.0, opened.1, bound))) e

shut : (x c : ℕ) → x ≡ 0 → ◌≡◌ {A = ℕ} (cond (ltb 0 c && eqb x c) 1 0) 0
shut x c e = grind (arith, nat_tests)

none_open : (h : Heap) (t : Token) → h.graph.n ≡ 0 → times_open t (state h) ≡ 0
unfolding times_open
none_open h t e = let bound = h.holds t.hold in shut _ t.cell (omega (arith, bound, e))

zeros : (n k : ℕ) → ◌≡◌ {A = ℕ} (get_or (replicate n 0) k 0) 0
zeros n k = ⊎_elim (λ (h : k < n). get_or-replicate n k 0 0 h) (λ (h : n ≤ k). get_or-eq_default (replicate n 0) 0 (omega (arith, length-replicate {A = ℕ} n 0, h))) (cases_lt k n)

none_open_at_first : (n : ℕ) (t : Token) → times_open t (sized n) ≡ 0
unfolding times_open
none_open_at_first n t = shut _ t.cell (zeros 16 t.hold)

-- A new heap has no cells.
pub none_open_anew : (s : State) → s ≡ sized 0 → NoneOpen s
none_open_anew s e t = ap (times_open t) e ∙ none_open_at_first 0 t

unsized_passed : (a b c : Bool) (x y z : Refusal) → cond a (Some x) (cond (not b) (Some y) (cond c (Some z) None)) ≡ None → b ≡ true
unsized_passed true b c x y z e = absurd cc
unsized_passed false true c x y z e = refl
unsized_passed false false c x y z e = absurd cc

module _ {L : Type 0} (o : Ops L) where
  pub size_same : (n : ℕ) (h : Heap) (l l' : L) (x : Result (Unit {0}) Refusal) (s' : State) → Size o n (state h) l x s' l' → (t : Token) → times_open t s' ≡ times_open t (state h)
  size_same n h l l' (Ok _) s' d t =
      let first = eqb-true h.graph.n 0 (unsized_passed _ _ _ _ _ _ d.0.cause) in
      ap (times_open t) d.0.state ∙ (none_open_at_first n t ∙ sym (none_open h t first))
  size_same n h l l' (Err _) s' d t = ap (times_open t) d.state

  pub clear_same : (r : ℕ) (s : State) (l l' : L) (x : Result (Unit {0}) Refusal) (s' : State) → Clear o r s l x s' l' → (t : Token) → times_open t s' ≡ times_open t s
  clear_same r s l l' (Ok _) s' d t = same_open t s s' (ap (λ (z : State). z.graph.holds) d.0.state)
  clear_same r s l l' (Err _) s' d t = ap (times_open t) d.state

  pub copy_same : (r q : ℕ) (s : State) (l l' : L) (x : Result (Unit {0}) Refusal) (s' : State) → Copy o r q s l x s' l' → (t : Token) → times_open t s' ≡ times_open t s
  copy_same r q s l l' (Ok _) s' d t = same_open t s s' (ap (λ (z : State). z.graph.holds) d.0.state)
  copy_same r q s l l' (Err _) s' d t = ap (times_open t) d.state

  pub load_same : (r q f : ℕ) (s : State) (l l' : L) (x : Result (Unit {0}) Refusal) (s' : State) → Load o r q f s l x s' l' → (t : Token) → times_open t s' ≡ times_open t s
  load_same r q f s l l' (Ok _) s' d t = same_open t s s' (ap (λ (z : State). z.graph.holds) d.0.state)
  load_same r q f s l l' (Err _) s' d t = ap (times_open t) d.state

  pub store_same : (r f q : ℕ) (s : State) (l l' : L) (x : Result (Unit {0}) Refusal) (s' : State) → Store o r f q s l x s' l' → (t : Token) → times_open t s' ≡ times_open t s
  store_same r f q s l l' (Ok _) s' d t = same_open t s s' (ap (λ (z : State). z.graph.holds) d.0.state)
  store_same r f q s l l' (Err _) s' d t = ap (times_open t) d.state

  pub new_same : (r : ℕ) (s : State) (l l' : L) (x : Result ℕ Refusal) (s' : State) → New o r s l x s' l' → (t : Token) → times_open t s' ≡ times_open t s
  new_same r s l l' (Ok _) s' d t = same_open t s s' (ap (λ (z : State). z.graph.holds) d.0.state)
  new_same r s l l' (Err _) s' d t = ap (times_open t) d.state

-- Of two heaps in one of which a token is open, it is the other.
other_open : (p q : Bool) → 1 ≤ cond p 1 0 + cond q 1 0 → p ≡ false → q ≡ true
other_open p true h e = refl
other_open true false h e = absurd cc
other_open false false h e = absurd (omega arith)

open_somewhere : (t : Token) (s s' : State) → 1 ≤ times_open t s + times_open t s' → open_token s t ≡ false → open_token s' t ≡ true
unfolding times_open
open_somewhere t s s' h e = other_open (open_token s t) (open_token s' t) h e

like_itself : (t : Token) → ◌≡◌ {A = ℕ} (cond (is_like t t) 1 0) 1
like_itself t = ap (λ (b : Bool). cond b 1 0) (and_from _ _ (eq-eqb t.hold t.hold refl) (eq-eqb t.cell t.cell refl))

pub open_in_other : (ks ks' : List Kept) (k : Kept) (s s' : State) → Balanced ks s s' → ks ≡ ks' ++ k ∷ [] → open_token s k.token ≡ false → open_token s' k.token ≡ true
open_in_other ks ks' k s s' balanced e shut_here =
    let t = k.token in
    open_somewhere t s s' (omega (arith, balanced t, kept_popped t ks ks' k e, like_itself t)) shut_here
