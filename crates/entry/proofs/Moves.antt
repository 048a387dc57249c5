-- What the calls of a heap change. Assumes nothing.
use Rattle.std.proofs.Common.{◌≡◌, ℕ, ◌-◌, ◌<◌, ◌≤◌, Bool, true, false, cond, ◌||◌, eqb, ltb, ◌≢◌, List, [], ◌∷◌, length, get_or, set, Some, None, sym, refl, ap, ◌∙◌, subst, ⊎_elim, arith, length-set}
use Rattle.heap.specs.Bits.{is_set}
use Rattle.heap.specs.Calls.{Next, given, load_checks, root, unsized, with_root, with_slot}
use Rattle.heap.specs.Keeps.{Held}
use Rattle.heap.specs.Looks.{look_root}
use Rattle.heap.specs.Refusals.{Check, cause_of, check}
use Rattle.heap.specs.States.{State, state}
use Rattle.heap.specs.declared.heap.Heap.{Heap}
use Rattle.refusals.specs.declared.refusal.Refusal.{Refusal}
use Rattle.refusals.specs.declared.refusal.Refusal.TheVariants.{Empty, Root, Slot, Unsized}
use Rattle.std.proofs.lemmas.List.FromFn.{length-map-range_with_len}
use Rattle.std.proofs.lemmas.List.{get_or_past, get_or-set_other, get_or-set_same}
use Rattle.std.proofs.lemmas.Bool.{both_ways, cases_eq, cases_lt, eqb-false}
use Rattle.ledgers.specs.Meaning.{Ops}
use Rattle.entry.specs.Entries.{OnlyRoots, OnlyRoot, Slotted, Grown, Added}

pub rooted : (r x : ℕ) (s s' : State) → s' ≡ with_root s r x → OnlyRoot r s s'
rooted r x s s' e = record {
  kept = record {
    cells = ap (λ (t : State). t.graph.cells) e;
    slots = ap (λ (t : State). t.graph.slots) e;
    holds = ap (λ (t : State). t.graph.holds) e;
    used = ap (λ (t : State). t.graph.used) e;
  };
  others = λ q ne. ap (λ (t : State). root t q) e ∙ get_or-set_other s.graph.roots r q x 0 ne;
}

pub kept_then : {s m s' : State} → OnlyRoots s m → OnlyRoots m s' → OnlyRoots s s'
kept_then a b = record {
  cells = b.cells ∙ a.cells;
  slots = b.slots ∙ a.slots;
  holds = b.holds ∙ a.holds;
  used = b.used ∙ a.used;
}

-- A root that was looked at.
pub looked : (s : State) (r x : ℕ) → look_root s r ≡ Some x → root s r ≡ x
looked s r x e = go (ltb r 16) e
  where
    go : (b : Bool) → cond b (Some (root s r)) None ≡ Some x → root s r ≡ x
    go true h = cc
    go false h = cc

pub slotted_then : {t u : List ℕ} {s m s' : State} → Slotted t s m → Slotted u m s' → Slotted u s s'
slotted_then a b = record {
  cells = b.cells ∙ a.cells;
  slots = b.slots;
  holds = b.holds ∙ a.holds;
  used = b.used ∙ a.used;
}

-- No test held, so the first did not.
pub passes : (b : Bool) (e : Refusal) (cs : List Check) → cause_of (check b e ∷ cs) ≡ None → (b ≡ false) × (cause_of cs ≡ None)
passes true e cs h = let z : ◌≡◌ {A = ℕ} 0 1 = cc in absurd (omega arith)
passes false e cs h = (refl, h)

-- What a load tests.
four : (a b c d : Bool) → cause_of (check a Root ∷ check b Slot ∷ check c Unsized ∷ check d Empty ∷ []) ≡ None → (b ≡ false) × (d ≡ false)
four a b c d h =
    let one = passes a Root (check b Slot ∷ check c Unsized ∷ check d Empty ∷ []) h in
    let two = passes b Slot (check c Unsized ∷ check d Empty ∷ []) one.1 in
    let three = passes c Unsized (check d Empty ∷ []) two.1 in
    let last = passes d Empty [] three.1 in
    (two.0, last.0)

-- An accepted load has a cell to load from.
pub load_some : (s : State) (r q f : ℕ) → cause_of (load_checks s r q f) ≡ None → root s q ≢ 0
load_some s r q f h = eqb-false (root s q) 0 (four (ltb 15 r || ltb 15 q) (ltb 3 f) (unsized s) (eqb (root s q) 0) h).1

-- A root that is not empty is there, and so are those before it.
root_there : (s : State) (q : ℕ) → root s q ≢ 0 → q < length s.graph.roots
root_there s q some = ⊎_elim (λ h. h) (λ h. absurd (some (get_or_past s.graph.roots q 0 h))) (cases_lt q (length s.graph.roots))

-- What was put into a root that is there.
pub root_put : (s s' : State) (r q x : ℕ) → r < q → root s q ≢ 0 → s' ≡ with_root s r x → root s' r ≡ x
root_put s s' r q x before some e =
    let there = root_there s q some in
    ap (λ (t : State). root t r) e ∙ get_or-set_same s.graph.roots r x 0 (omega arith)

-- A root that was emptied is empty.
pub root_cleared : (s s' : State) (r : ℕ) → s' ≡ with_root s r 0 → root s' r ≡ 0
root_cleared s s' r e =
    ap (λ (t : State). root t r) e
    ∙ ⊎_elim (λ h. get_or-set_same s.graph.roots r 0 0 h) (λ h. get_or_past (set s.graph.roots r 0) r 0 (omega (arith, length-set s.graph.roots r 0))) (cases_lt r (length s.graph.roots))

pub used_long : (h : Heap) → length (state h).graph.used ≡ (state h).graph.cells
used_long h = length-map-range_with_len (is_set h.graph.used) 1 h.graph.n

-- What is set stays set.
set_keeps : (xs : List Bool) (i j : ℕ) → get_or xs j false ≡ true → get_or (set xs i true) j false ≡ true
set_keeps xs i j h =
    ⊎_elim
    (λ (l : j < length xs). ⊎_elim
    (λ (e : j ≡ i). let lt : i < length xs = omega arith in ap (λ (k : ℕ). get_or (set xs i true) k false) e ∙ get_or-set_same xs i true false lt)
    (λ (ne : j ≢ i). get_or-set_other xs i j true false ne ∙ h)
    (cases_eq j i))
    (λ (l : length xs ≤ j). absurd (both_ways (get_or xs j false) (get_or_past xs j false l) h))
    (cases_lt j (length xs))

pub grown_kept : {s s' : State} → OnlyRoots s s' → Grown s s'
grown_kept k = record {
  cells = k.cells;
  holds = k.holds;
  used = λ c u. ap (λ (xs : List Bool). get_or xs (c - 1) false) k.used ∙ u;
}

pub grown_same : (s : State) → Grown s s
grown_same s = record { cells = refl; holds = refl; used = λ c u. u }

pub grown_slot : (i x : ℕ) (s s' : State) → s' ≡ with_slot s i x → Grown s s'
grown_slot i x s s' e = record {
  cells = ap (λ (t : State). t.graph.cells) e;
  holds = ap (λ (t : State). t.graph.holds) e;
  used = λ c u. ap (λ (t : State). get_or t.graph.used (c - 1) false) e ∙ u;
}

pub grown_then : {s m s' : State} → Grown s m → Grown m s' → Grown s s'
grown_then a b = record {
  cells = b.cells ∙ a.cells;
  holds = b.holds ∙ a.holds;
  used = λ c u. b.used c (a.used c u);
}

-- A new cell was free.
pub added_new : (r c : ℕ) (s s' : State) → length s.graph.used ≡ s.graph.cells → s' ≡ with_root (given s c) r c → Next s c → Added c s s'
added_new r c s s' long e next = record {
  grown = record {
    cells = ap (λ (t : State). t.graph.cells) e;
    holds = ap (λ (t : State). t.graph.holds) e;
    used = λ d u. ap (λ (t : State). get_or t.graph.used (d - 1) false) e ∙ set_keeps s.graph.used (c - 1) (d - 1) u;
  };
  least = next.least;
  most = next.most;
  free = λ u. both_ways (get_or s.graph.used (c - 1) false) next.free u;
  used = ap (λ (t : State). get_or t.graph.used (c - 1) false) e ∙ get_or-set_same s.graph.used (c - 1) true false (omega (arith, next.least, next.most));
}

pub added_then : {c : ℕ} {s m s' : State} → Added c s m → Grown m s' → Added c s s'
added_then {c} a b = record {
  grown = grown_then a.grown b;
  least = a.least;
  most = a.most;
  free = a.free;
  used = b.used c a.used;
}

pub added_after : {c : ℕ} {s m s' : State} → Grown s m → Added c m s' → Added c s s'
added_after {c} a b = record {
  grown = grown_then a b.grown;
  least = b.least;
  most = omega (arith, b.most, a.cells);
  free = λ u. b.free (a.used c u);
  used = b.used;
}

pub slotted : (i x : ℕ) (s s' : State) → s' ≡ with_slot s i x → Slotted (set s.graph.slots i x) s s'
slotted i x s s' e = record {
  cells = ap (λ (t : State). t.graph.cells) e;
  slots = ap (λ (t : State). t.graph.slots) e;
  holds = ap (λ (t : State). t.graph.holds) e;
  used = ap (λ (t : State). t.graph.used) e;
}

-- Roots changed before.
pub slotted_after : {t : List ℕ} {s m s' : State} → OnlyRoots s m → Slotted t m s' → Slotted t s s'
slotted_after a b = record {
  cells = b.cells ∙ a.cells;
  slots = b.slots;
  holds = b.holds ∙ a.holds;
  used = b.used ∙ a.used;
}

-- What changes no slot keeps heap and ledger together.
pub held_kept : {L : Type 0} (o : Ops L) {s s' : State} {l : L} → s'.graph.cells ≡ s.graph.cells → s'.graph.slots ≡ s.graph.slots → Held o s l → Held o s' l
held_kept o {l = l} cells slots h = record { cells = h.cells ∙ sym cells; agrees = subst (o.Agrees l) (sym slots) h.agrees }
