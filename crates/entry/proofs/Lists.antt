-- One more part, reference, edit or answer. Assumes nothing.
use Rattle.std.proofs.Common.{◌≡◌, ℕ, ◌+◌, ◌-◌, ◌<◌, ◌≤◌, ◌≢◌, cond, eqb, List, [], ◌∷◌, ◌++◌, length, get_or, take, sym, refl, ap, ◌∙◌, subst, ⊎_elim, arith}
use Rattle.heap.specs.States.{State}
use Rattle.ledgers.specs.Tables.{Cell}
use Rattle.parts.specs.declared.edits.Edit.{Edit}
use Rattle.std.proofs.lemmas.List.{get_or_append_left, get_or_push, length_push, length-take-le, take_more}
use Rattle.std.proofs.lemmas.Bool.{cases_lt, cond-false, cond-true, eq-eqb, ne_eqb}
use Rattle.entry.proofs.Moves.{slotted_then}
use Rattle.ledgers.specs.Meaning.{Ops}
use Rattle.entry.specs.Entries.{Added, Forgets, Forgot, Forgotten, Own, Pointing, Points, cell_of, edited, in_use, more, put_at, referred, Slotted}
use Rattle.entry.specs.Tells.{Tells}
use Rattle.entry.specs.declared.answers.Told.{Told}

edited_push : (cells : List ℕ) (es : List Edit) (e : Edit) (t : List ℕ) → edited cells (es ++ e ∷ []) t ≡ put_at cells (edited cells es t) e.slot e.content
edited_push cells [] e t = refl
edited_push cells (x ∷ es) e t = edited_push cells es e (put_at cells t x.slot x.content)

pub edited_more : (cells : List ℕ) (es : List Edit) (t : List ℕ) (i : ℕ) (d : Edit) → i < length es → edited cells (take (i + 1) es) t ≡ put_at cells (edited cells (take i es) t) (get_or es i d).slot (get_or es i d).content
edited_more cells es t i d lt = ap (λ (xs : List Edit). edited cells xs t) (take_more es i d lt) ∙ edited_push cells (take i es) (get_or es i d) t

-- What one slot of a drawing makes of the heap's slots.
abbrev pub step : List ℕ → List ℕ → ℕ → ℕ → List ℕ
step cells t i part = cond (eqb part 0) t (put_at cells t i part)

referred_push : (cells : List ℕ) (j k : ℕ) (xs : List ℕ) (x : ℕ) (t : List ℕ) → j + length xs ≡ k → referred cells j (xs ++ x ∷ []) t ≡ step cells (referred cells j xs t) k x
referred_push cells j k [] x t e = let same : j ≡ k = omega arith in ap (λ (i : ℕ). step cells t i x) same
referred_push cells j k (y ∷ xs) x t e = referred_push cells (j + 1) k xs x (step cells t j y) (omega arith)

pub referred_more : (cells xs t : List ℕ) (i : ℕ) → i < length xs → referred cells 0 (take (i + 1) xs) t ≡ step cells (referred cells 0 (take i xs) t) i (get_or xs i 0)
referred_more cells xs t i lt =
    ap (λ (ys : List ℕ). referred cells 0 ys t) (take_more xs i 0 lt) ∙ referred_push cells 0 i (take i xs) (get_or xs i 0) t (omega (arith, length-take-le i xs (omega arith)))

-- One more part, with a cell that was free.
pub own_more : (cells : List ℕ) (c : ℕ) (s s' : State) → Own cells s → Added c s s' → Own (cells ++ c ∷ []) s'
own_more cells c s s' own added = record {
  used = λ i lt. ⊎_elim
      (λ (old : i < length cells).
      let was = own.used i old in
      let n = added.grown.cells in
      let most = was.0.1 in
      subst (λ (x : ℕ). Cell s'.graph.cells x × in_use s' x) (sym (get_or_append_left cells (c ∷ []) 0 i old)) ((was.0.0, omega arith), added.grown.used (get_or cells i 0) was.1))
      (λ (past : length cells ≤ i).
      let e : length cells ≡ i = omega (arith, length_push cells c) in
      let n = added.grown.cells in
      let most = added.most in
      subst (λ (x : ℕ). Cell s'.graph.cells x × in_use s' x) (sym (get_or_push cells c 0 i e)) ((added.least, omega arith), added.used))
      (cases_lt i (length cells));
  apart = λ i j before lt. ⊎_elim
      (λ (old : j < length cells) (e : get_or (cells ++ c ∷ []) i 0 ≡ get_or (cells ++ c ∷ []) j 0).
      own.apart i j before old (sym (get_or_append_left cells (c ∷ []) 0 i (omega arith)) ∙ e ∙ get_or_append_left cells (c ∷ []) 0 j old))
      (λ (past : length cells ≤ j) (e : get_or (cells ++ c ∷ []) i 0 ≡ get_or (cells ++ c ∷ []) j 0).
      let last : length cells ≡ j = omega (arith, length_push cells c) in
      let old : i < length cells = omega arith in
      added.free (subst (in_use s) (sym (get_or_append_left cells (c ∷ []) 0 i old) ∙ e ∙ get_or_push cells c 0 j last) (own.used i old).1))
      (cases_lt j (length cells));
}

-- One more slot that was read.
pub pointing_more : (cells t : List ℕ) (k : ℕ) (parts : List ℕ) (part : ℕ) → Pointing cells t k parts → Points cells t k part → Pointing cells t (k + 1) (parts ++ part ∷ [])
pointing_more cells t k parts part before last = record {
  size = length_push parts part ∙ ap (λ (n : ℕ). n + 1) before.size;
  each = λ i lt. ⊎_elim
      (λ (old : i < k). subst (Points cells t i) (sym (get_or_append_left parts (part ∷ []) 0 i (omega (arith, before.size)))) (before.each i old))
      (λ (past : k ≤ i).
      let e : length parts ≡ i = omega (arith, before.size) in
      let same : k ≡ i = omega arith in
      subst (Points cells t i) (sym (get_or_push parts part 0 i e)) (subst (λ (j : ℕ). Points cells t j part) same last))
      (cases_lt i k);
}

-- One more part that the index forgot: those before part k were forgotten.
pub forgotten_more : (cells : List ℕ) (k j : ℕ) (s m s' : State) → 1 ≤ k → j ≡ k → Forgotten cells (k - 1) s m → Forgot (cell_of cells k) m s' → Forgotten cells j s s'
forgotten_more cells k j s m s' least same before last =
    let next : k - 1 + 1 ≡ j = omega arith in
    let here : k ≡ k - 1 + 1 = omega arith in
    record {
      cells_kept = last.now_empty.cells ∙ before.cells_kept;
      slots = subst (λ (i : ℕ). Forgets cells i s.graph.slots s'.graph.slots) next (subst (Forgets cells (k - 1 + 1) s.graph.slots) (sym last.now_empty.slots) (more before.slots last.slot (last.was ∙ ap (cell_of cells) here)));
      holds = last.now_empty.holds ∙ before.holds;
      used = last.now_empty.used ∙ before.used;
      owner = last.owner ∙ before.owner;
    }

-- One more part of which something is told.
pub told_more : {L : Type 0} (o : Ops L) (l : L) (cells : List ℕ) (parts : List Told) (k : ℕ) (told : Told) → length parts ≡ k → ((i : ℕ) (d : Told) → i < k → Tells o l (get_or cells i 0) (get_or parts i d)) → Tells o l (get_or cells k 0) told
    → (i : ℕ) (d : Told) → i < k + 1 → Tells o l (get_or cells i 0) (get_or (parts ++ told ∷ []) i d)
told_more o l cells parts k told size before last i d lt =
    ⊎_elim
    (λ (old : i < k). subst (Tells o l (get_or cells i 0)) (sym (get_or_append_left parts (told ∷ []) d i (omega arith))) (before i d old))
    (λ (past : k ≤ i).
    let e : length parts ≡ i = omega arith in
    let same : k ≡ i = omega arith in
    subst (Tells o l (get_or cells i 0)) (sym (get_or_push parts told d i e)) (subst (λ (j : ℕ). Tells o l (get_or cells j 0) told) same last))
    (cases_lt i k)

-- One more edit was stored.
pub edit_stored : (cells : List ℕ) (es : List Edit) (i : ℕ) (d : Edit) {s m s' : State} → i < length es → Slotted (edited cells (take i es) s.graph.slots) s m → Slotted (put_at cells m.graph.slots (get_or es i d).slot (get_or es i d).content) m s' → Slotted (edited cells (take (i + 1) es) s.graph.slots) s s'
edit_stored cells es i d {s = s} {s' = s'} lt before put =
    let edit = get_or es i d in
    let same = ap (λ (t : List ℕ). put_at cells t edit.slot edit.content) before.slots ∙ sym (edited_more cells es s.graph.slots i d lt) in
    subst (λ (t : List ℕ). Slotted t s s') same (slotted_then before put)

-- One more slot of the drawing, which is empty.
pub empty_passed : (cells xs : List ℕ) (i : ℕ) {s m : State} → i < length xs → get_or xs i 0 ≡ 0 → Slotted (referred cells 0 (take i xs) s.graph.slots) s m → Slotted (referred cells 0 (take (i + 1) xs) s.graph.slots) s m
empty_passed cells xs i {s = s} {m = m} lt empty before =
    let part = get_or xs i 0 in
    let done = referred cells 0 (take i xs) s.graph.slots in
    let same = sym (cond-true (eqb part 0) done (put_at cells done i part) (eq-eqb part 0 empty)) ∙ sym (referred_more cells xs s.graph.slots i lt) in
    subst (λ (t : List ℕ). Slotted t s m) same before

-- One more slot of the drawing, whose reference was stored.
pub reference_stored : (cells xs : List ℕ) (i : ℕ) {s m s' : State} → i < length xs → get_or xs i 0 ≢ 0 → Slotted (referred cells 0 (take i xs) s.graph.slots) s m → Slotted (put_at cells m.graph.slots i (get_or xs i 0)) m s' → Slotted (referred cells 0 (take (i + 1) xs) s.graph.slots) s s'
reference_stored cells xs i {s = s} {s' = s'} lt some before put =
    let part = get_or xs i 0 in
    let done = referred cells 0 (take i xs) s.graph.slots in
    let same = ap (λ (t : List ℕ). put_at cells t i part) before.slots
    ∙ sym (cond-false (eqb part 0) done (put_at cells done i part) (ne_eqb part 0 some))
    ∙ sym (referred_more cells xs s.graph.slots i lt) in
    subst (λ (t : List ℕ). Slotted t s s') same (slotted_then before put)
