-- Each change of a state keeps it well formed.
use Rattle.std.proofs.Common.{◌≡◌, ℕ, ◌+◌, ◌-◌, ◌*◌, ◌<◌, ◌≤◌, Bool, true, false, ◌||◌, eqb, List, length, get_or, set, replicate, sym, refl, ap, ◌∙◌, subst, inl, inr, ⊎_elim, arith, length-set, get_or-set_other, get_or-set_same}
use lib.ListN.{length-replicate}
use Rattle.heap.proofs.Contents.{each_set, each_same, set_flag}
use Rattle.heap.specs.Calls.{Next, given, lost, root, with_hold, with_root, with_slot}
use Rattle.heap.specs.Graph.{Graph, Used}
use Rattle.heap.specs.Keeps.{Content, Free, WellFormed}
use Rattle.heap.specs.States.{State, sized}
use Rattle.std.proofs.lemmas.Bool.{both_ways, cases_Bool, cases_eq, cond_both, eqb-false, or_parts}

-- A graph with the same use of its cells.
same_used : (g g' : Graph) → g'.cells ≡ g.cells → g'.used ≡ g.used → (c : ℕ) → Used g c → Used g' c
same_used g g' n e c u = record { least = u.least; most = omega (arith, u.most); set = ap (λ (xs : List Bool). get_or xs (c - 1) false) e ∙ u.set }

same_free : (g g' : Graph) → g'.cells ≡ g.cells → g'.used ≡ g.used → (c : ℕ) → Free g' c → Free g c
same_free g g' n e c f = record { least = f.least; most = omega (arith, f.most); clear = sym (ap (λ (xs : List Bool). get_or xs (c - 1) false) e) ∙ f.clear }

same_content : (g g' : Graph) → g'.cells ≡ g.cells → g'.used ≡ g.used → (x : ℕ) → Content g x → Content g' x
same_content g g' n e x h = ⊎_elim (λ z. inl z) (λ u. inr (same_used g g' n e x u)) h

-- What is in use is not free.
pub used_not_free : (g : Graph) (c : ℕ) → Used g c → Free g c → ⊥
used_not_free g c u f = both_ways (get_or g.used (c - 1) false) f.clear u.set

-- A cell that is given up was in use, so a suspect still is.
lost_used : (g : Graph) (suspects : List Bool) (old new : ℕ) → Content g old → ((c : ℕ) → 1 ≤ c → get_or suspects (c - 1) false ≡ true → Used g c)
    → (c : ℕ) → 1 ≤ c → get_or (lost old new suspects) (c - 1) false ≡ true → Used g c
lost_used g suspects old new h all c one =
    cond_both (eqb old 0 || eqb old new) suspects (set suspects (old - 1) true) (λ xs. get_or xs (c - 1) false ≡ true → Used g c)
    (λ _ e. all c one e)
    (λ b e.
    let not0 = eqb-false old 0 (or_parts (eqb old 0) (eqb old new) b).0 in
    ⊎_elim (λ z. absurd (not0 z))
    (λ u. ⊎_elim
    (λ i. let o : old ≡ c = omega (arith, u.least) in subst (Used g) o u)
    (λ ne. all c one (sym (get_or-set_other suspects (old - 1) (c - 1) true false ne) ∙ e))
    (cases_eq (c - 1) (old - 1))) h)

suspect_used : (s : State) → WellFormed s → (c : ℕ) → 1 ≤ c → get_or s.suspects (c - 1) false ≡ true → Used s.graph c
suspect_used s w c one e = w.suspects c (record { least = one; set = e })

pub root_formed : (s : State) (r c : ℕ) → Content s.graph c → WellFormed s → WellFormed (with_root s r c)
root_formed s r c h w =
    let g = s.graph in
    let g' = (with_root s r c).graph in
    record {
      sized = w.sized;
      empty = λ d f v lt. w.empty d f (same_free g g' refl refl d v) lt;
      slots = λ i. same_content g g' refl refl _ (w.slots i);
      roots = λ k. same_content g g' refl refl _ (each_set (Content g) 0 r c g.roots w.roots h k);
      holds = λ k. same_content g g' refl refl _ (w.holds k);
      suspects = λ d v. same_used g g' refl refl d (lost_used g s.suspects (root s r) c (w.roots r) (suspect_used s w) d v.least v.set);
    }

pub hold_formed : (s : State) (k c : ℕ) → Content s.graph c → WellFormed s → WellFormed (with_hold s k c)
hold_formed s k c h w =
    let g = s.graph in
    let g' = (with_hold s k c).graph in
    record {
      sized = w.sized;
      empty = λ d f v lt. w.empty d f (same_free g g' refl refl d v) lt;
      slots = λ i. same_content g g' refl refl _ (w.slots i);
      roots = λ i. same_content g g' refl refl _ (w.roots i);
      holds = λ i. same_content g g' refl refl _ (each_set (Content g) 0 k c g.holds w.holds h i);
      suspects = λ d v. same_used g g' refl refl d (lost_used g s.suspects (get_or g.holds k 0) c (w.holds k) (suspect_used s w) d v.least v.set);
    }

-- A slot of a cell in use is written.
pub slot_formed : (s : State) (o f c : ℕ) → Used s.graph o → f < 4 → Content s.graph c → WellFormed s → WellFormed (with_slot s (4 * (o - 1) + f) c)
slot_formed s o f c u lf h w =
    let g = s.graph in
    let i = 4 * (o - 1) + f in
    let g' = (with_slot s i c).graph in
    record {
      sized = w.sized;
      empty = λ d e v le.
          let free = same_free g g' refl refl d v in
          let ne : 4 * (d - 1) + e ≡ i → ⊥ = λ q. let same : o ≡ d = omega (arith, u.least, v.least) in used_not_free g d (subst (Used g) same u) free in
          get_or-set_other g.slots i (4 * (d - 1) + e) c 0 ne ∙ w.empty d e free le;
      slots = λ k. same_content g g' refl refl _ (each_set (Content g) 0 i c g.slots w.slots h k);
      roots = λ k. same_content g g' refl refl _ (w.roots k);
      holds = λ k. same_content g g' refl refl _ (w.holds k);
      suspects = λ d v. same_used g g' refl refl d (lost_used g s.suspects (get_or g.slots i 0) c (w.slots i) (suspect_used s w) d v.least v.set);
    }

-- The cells in use stay so when one more is given out, and what is free then was free.
still_used : (s : State) (c d : ℕ) → Used s.graph d → Used (given s c).graph d
still_used s c d u = record { least = u.least; most = u.most; set = set_flag s.graph.used (c - 1) (d - 1) u.set }

was_free : (s : State) (c d : ℕ) → Free (given s c).graph d → Free s.graph d
was_free s c d v =
    let used = s.graph.used in
    record {
      least = v.least;
      most = v.most;
      clear = ⊎_elim (λ t. absurd (both_ways (get_or (set used (c - 1) true) (d - 1) false) v.clear (set_flag used (c - 1) (d - 1) t))) (λ f. f) (cases_Bool (get_or used (d - 1) false));
    }

still_content : (s : State) (c x : ℕ) → Content s.graph x → Content (given s c).graph x
still_content s c x h = ⊎_elim (λ z. inl z) (λ u. inr (still_used s c x u)) h

pub given_used : (s : State) (c : ℕ) → Next s c → WellFormed s → Used (given s c).graph c
given_used s c n w =
    let within : c - 1 < length s.graph.used = omega (arith, n.least, n.most, w.sized) in
    record { least = n.least; most = n.most; set = get_or-set_same s.graph.used (c - 1) true false within }

pub given_formed : (s : State) (c : ℕ) → WellFormed s → WellFormed (given s c)
given_formed s c w = record {
  sized = length-set s.graph.used (c - 1) true ∙ w.sized;
  empty = λ d f v lt. w.empty d f (was_free s c d v) lt;
  slots = λ i. still_content s c _ (w.slots i);
  roots = λ r. still_content s c _ (w.roots r);
  holds = λ k. still_content s c _ (w.holds k);
  suspects = λ d v. still_used s c d (suspect_used s w d v.least v.set);
}

pub sized_formed : (n : ℕ) → WellFormed (sized n)
sized_formed n = record {
  sized = length-replicate {A = Bool} n false;
  empty = λ c f v lt. each_same (4 * n) (4 * (c - 1) + f) 0;
  slots = λ i. inl (each_same (4 * n) i 0);
  roots = λ r. inl (each_same 16 r 0);
  holds = λ k. inl (each_same 16 k 0);
  suspects = λ c v. absurd (both_ways (get_or (replicate n false) (c - 1) false) (each_same n (c - 1) false) v.set);
}
