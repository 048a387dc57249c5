-- What each call keeps, by its relation.
use Rattle.std.proofs.Common.{◌≡◌, ℕ, ◌*◌, ◌<◌, ◌≤◌, Bool, true, false, cond, eqb, List, [], ◌∷◌, get_or, set, Some, None, Ok, Err, Option, Result, sym, refl, ap, ◌∙◌, subst, inl, inr, ⊎_elim, arith}
use lib.Seq.{set-get_or}
use Rattle.heap.proofs.WellFormed.{given_formed, given_used, hold_formed, root_formed, sized_formed, slot_formed}
use Rattle.heap.specs.Calls.{Clear, Copy, Hold, Load, New, Release, Size, Store, Turned, given, root, size_checks, slot_of, store_checks, with_hold, with_root, with_slot}
use Rattle.heap.specs.Graph.{Used, content}
use Rattle.heap.specs.Keeps.{Begins, Content, Held, Keeps, WellFormed}
use Rattle.heap.specs.Refusals.{Check, cause_of}
use Rattle.heap.specs.States.{State, sized}
use Rattle.heap.specs.Within.{Within}
use Rattle.refusals.specs.declared.refusal.Refusal.{Refusal}
use Rattle.heap.specs.declared.token.Token.{Token}
use Rattle.ledgers.specs.Meaning.{InRange, Lawful, Ops}
use Rattle.std.proofs.lemmas.Bool.{cases_Bool, eqb-false, eqb-true, ltb-false}
use Rattle.std.specs.List.{AllByRecursion as All}

-- A root that is not empty contains a cell in use.
full_root : (s : State) (r : ℕ) → (root s r ≡ 0 → ⊥) → WellFormed s → Used s.graph (root s r)
full_root s r ne w = ⊎_elim (λ z. absurd (ne z)) (λ u. u) (w.roots r)

-- Where no cause is found, each test was passed.
one_passed : (b : Bool) (e : Refusal) (rest : Option Refusal) → cond b (Some e) rest ≡ None → (b ≡ false) × (rest ≡ None)
one_passed true e rest h = let z : ◌≡◌ {A = ℕ} 0 1 = cc in absurd (omega arith)
one_passed false e rest h = (refl, h)

passed : (cs : List Check) → cause_of cs ≡ None → All (λ c. c.fails ≡ false) cs
passed [] h = tt
passed (c ∷ cs) h = let p = one_passed c.fails c.cause (cause_of cs) h in (p.0, passed cs p.1)

-- A store that is not refused writes a slot, 0 to 3, of a cell.
storing : (s : State) (r f q : ℕ) → cause_of (store_checks s r f q) ≡ None → (f < 4) × (root s r ≡ 0 → ⊥)
storing s r f q h =
    let p = passed (store_checks s r f q) h in
    let low = ltb-false 3 f p.1.0 in
    (omega arith, eqb-false (root s r) 0 p.1.1.1.0)

module _ {L : Type 0} (o : Ops L) where
  -- What holds after the change that a call makes holds after the call.
  moved : (s s'' s' : State) (l l'' l' : L) → s' ≡ s'' → l' ≡ l'' → Keeps o s l s'' l'' → Keeps o s l s' l'
  moved s s'' s' l l'' l' e f k = (
    λ h. subst (λ (x : State). Held o x l') (sym e) (subst (Held o s'') (sym f) (k.0 h)),
    λ w. subst WellFormed (sym e) (k.1 w),
  )

  turned : (checks : List Check) (e : Refusal) (s s' : State) (l l' : L) → Turned o checks e s s' l l' → Keeps o s l s' l'
  turned checks e s s' l l' t = moved s s s' l l l' t.state t.ledger (λ h. h, λ w. w)

  with_root_keeps : (s : State) (r c : ℕ) (l : L) → (WellFormed s → Content s.graph c) → Keeps o s l (with_root s r c) l
  with_root_keeps s r c l h = (λ k. record { cells = k.cells; agrees = k.agrees }, λ w. root_formed s r c (h w) w)

  with_hold_keeps : (s : State) (i c : ℕ) (l : L) → (WellFormed s → Content s.graph c) → Keeps o s l (with_hold s i c) l
  with_hold_keeps s i c l h = (λ k. record { cells = k.cells; agrees = k.agrees }, λ w. hold_formed s i c (h w) w)

  pub clear_keeps : (r : ℕ) (s s' : State) (l l' : L) (x : Result (Unit {0}) Refusal) → Clear o r s l x s' l' → Keeps o s l s' l'
  clear_keeps r s s' l l' (Ok _) d = moved s (with_root s r 0) s' l l l' d.0.state d.1 (with_root_keeps s r 0 l (λ w. inl refl))
  clear_keeps r s s' l l' (Err e) d = turned _ e s s' l l' d

  pub copy_keeps : (r q : ℕ) (s s' : State) (l l' : L) (x : Result (Unit {0}) Refusal) → Copy o r q s l x s' l' → Keeps o s l s' l'
  copy_keeps r q s s' l l' (Ok _) d = moved s (with_root s r (root s q)) s' l l l' d.0.state d.1 (with_root_keeps s r (root s q) l (λ w. w.roots q))
  copy_keeps r q s s' l l' (Err e) d = turned _ e s s' l l' d

  pub load_keeps : (r q f : ℕ) (s s' : State) (l l' : L) (x : Result (Unit {0}) Refusal) → Load o r q f s l x s' l' → Keeps o s l s' l'
  load_keeps r q f s s' l l' (Ok _) d =
      let c = content s.graph (root s q) f in
      moved s (with_root s r c) s' l l l' d.0.state d.1 (with_root_keeps s r c l (λ w. w.slots (slot_of s q f)))
  load_keeps r q f s s' l l' (Err e) d = turned _ e s s' l l' d

  pub new_keeps : (r : ℕ) (s s' : State) (l l' : L) (x : Result ℕ Refusal) → New o r s l x s' l' → Keeps o s l s' l'
  new_keeps r s s' l l' (Ok c) d =
      moved s (with_root (given s c) r c) s' l l l' d.0.state d.2 (
        λ k. record { cells = k.cells; agrees = k.agrees },
        λ w. root_formed (given s c) r c (inr (given_used s c d.1 w)) (given_formed s c w),
      )
  new_keeps r s s' l l' (Err e) d = turned _ e s s' l l' d

  pub hold_keeps : (r : ℕ) (s s' : State) (l l' : L) (x : Result Token Refusal) → Hold o r s l x s' l' → Keeps o s l s' l'
  hold_keeps r s s' l l' (Ok t) d =
      moved s (with_hold s t.hold (root s r)) s' l l l' d.0.state d.3 (with_hold_keeps s t.hold (root s r) l (λ w. w.roots r))
  hold_keeps r s s' l l' (Err e) d = turned _ e s s' l l' d

  pub release_keeps : (t : Token) (s s' : State) (l l' : L) (x : Result (Unit {0}) Refusal) → Release o t s l x s' l' → Keeps o s l s' l'
  release_keeps t s s' l l' (Ok _) d = moved s (with_hold s t.hold 0) s' l l l' d.0.state d.1 (with_hold_keeps s t.hold 0 l (λ w. inl refl))
  release_keeps t s s' l l' (Err e) d = turned _ e s s' l l' d

  -- The note of a store is in range, so the ledger follows the slot.
  noted : Lawful o → (s : State) (i new : ℕ) (l l' : L) → i < 4 * s.graph.cells → new ≤ s.graph.cells → o.Notes i (get_or s.graph.slots i 0) new l l'
      → Held o s l → Held o (with_slot s i new) l'
  noted laws s i new l l' li ln note h =
      let t = s.graph.slots in
      let shape = laws.note_shape i (get_or t i 0) new l l' t note h.agrees in
      let old = (laws.table l t h.agrees).contents i in
      let range : InRange o l i (get_or t i 0) new = (omega (arith, h.cells), old, omega (arith, h.cells)) in
      record { cells = shape.cells ∙ h.cells; agrees = laws.note_agrees i (get_or t i 0) new l l' t note range h.agrees refl }

  -- A slot that gets what it contains.
  unnoted : (s : State) (i new : ℕ) (l : L) → get_or s.graph.slots i 0 ≡ new → Held o s l → Held o (with_slot s i new) l
  unnoted s i new l e h =
      let same : set s.graph.slots i new ≡ s.graph.slots = ap (set s.graph.slots i) (sym e) ∙ set-get_or s.graph.slots i 0 in
      record { cells = h.cells; agrees = subst (o.Agrees l) (sym same) h.agrees }

  pub store_keeps : Lawful o → (r f q : ℕ) (s s' : State) (l l' : L) (x : Result (Unit {0}) Refusal) → Within s.graph.cells s.graph.roots → Store o r f q s l x s' l'
      → Keeps o s l s' l'
  store_keeps laws r f q s s' l l' (Ok _) within d =
      let i = slot_of s r f in
      let new = root s q in
      let t = storing s r f q d.0.cause in
      let li : i < 4 * s.graph.cells = omega (arith, within r, t.0, t.1) in
      let held : Held o s l → Held o (with_slot s i new) l' =
      ⊎_elim
      (λ e h. subst (Held o (with_slot s i new)) (sym (subst (λ (b : Bool). cond b (l' ≡ l) (o.Notes i (get_or s.graph.slots i 0) new l l')) e d.1)) (unnoted s i new l (eqb-true _ _ e) h))
      (λ e h. noted laws s i new l l' li (within q) (subst (λ (b : Bool). cond b (l' ≡ l) (o.Notes i (get_or s.graph.slots i 0) new l l')) e d.1) h)
      (cases_Bool (eqb (get_or s.graph.slots i 0) new)) in
      moved s (with_slot s i new) s' l l' l' d.0.state refl (held, λ w. slot_formed s (root s r) f new (full_root s r t.1 w) t.0 (w.roots q) w)
  store_keeps laws r f q s s' l l' (Err e) within d = turned _ e s s' l l' d

  pub size_begins : Lawful o → (n : ℕ) (s s' : State) (l l' : L) (x : Result (Unit {0}) Refusal) → Size o n s l x s' l' → Begins o x s' l'
  size_begins laws n s s' l l' (Ok _) d =
      let room = ltb-false (o.capacity l) n (passed (size_checks (o.capacity l) s n) d.0.cause).1.1.0 in
      let c = laws.clears n l l' room d.1 in
      let held : Held o (sized n) l' = record { cells = c.cells; agrees = c.agrees } in
      (subst (λ (x : State). Held o x l') (sym d.0.state) held, subst WellFormed (sym d.0.state) (sized_formed n))
  size_begins laws n s s' l l' (Err e) d = tt
