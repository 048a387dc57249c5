-- The bottom ledger is lawful. Nothing in this file has to be believed: it is checked proof.
use Rattle.std.specs.Prelude.{◌≡◌, ℕ, zero, suc, ◌+◌, ◌-◌, ◌*◌, ◌<◌, ◌≤◌, min, Bool, cond, ◌≢◌, ◌⊎◌, ◌↔◌, List, length, get_or, drop, set, replicate, Some, None, Option, nat_eq, nat_le, slice_index, slice_index_or, slice_set, refl}
use Rattle.std.proofs.Common.{inl, inr, ⊎_elim, sym, ap, subst, ◌∙◌, arith}
use Rattle.counts.specs.Counting.{raised, lowered, set_to}
use Rattle.ledgers.specs.Bottoms.{more as one_more, Counts, room, Right, cleared, less, moved, IsInRange, BottomAgrees, Becomes, BottomClears, BottomNotes, BottomRecounts, bottom_ops}
use Rattle.ledgers.specs.Meaning.{Lawful, Told, Emptied, none, more, SameShape}
use Rattle.ledgers.specs.Meaning as meaning
use Rattle.ledgers.specs.TableLaws.{decide_range, hit, hit_yes, hit_no, holders_set, holders_empty, table_empty, table_set}
use Rattle.ledgers.specs.Tables.{Table, holders, Cell}
use Rattle.std.proofs.lemmas.List.{length-set, length-append, length-drop, length-replicate, get_or-set_same, get_or-set_other, set-get_or, get_or-replicate, get_or_append_left, set_past}
use Rattle.std.proofs.lemmas.List.Sums.{count_by-le-length}
use Rattle.std.proofs.lemmas.Bool.{cases_eq, cases_lt, cond-true, cond-false, lt-ltb, le-ltb, le-leb, lt-leb}

right_raised : (ceiling n : ℕ) (x : Option ℕ) (h : ℕ) → h + 1 ≤ 4 * n → Right ceiling n x h → Right ceiling n (raised ceiling x) (h + 1)
right_raised ceiling n None h few right = right
right_raised ceiling n (Some m) h few right =
    let P : Bool → Type 0 = λ b. Right ceiling n (cond b (Some (m + 1)) None) (h + 1) in
    ⊎_elim
    (λ (lt : m < ceiling). subst P (sym (lt-ltb m ceiling lt)) (omega arith))
    (λ (le : ceiling ≤ m). subst P (sym (le-ltb m ceiling le)) (omega arith))
    (cases_lt m ceiling)

right_lowered : (ceiling n : ℕ) (x : Option ℕ) (h : ℕ) → Right ceiling n x (h + 1) → Right ceiling n (lowered x) h
right_lowered ceiling n None h right = right
right_lowered ceiling n (Some m) h right = omega arith

right_set : (ceiling n m : ℕ) → m ≤ 4 * n → Right ceiling n (set_to ceiling m) m
right_set ceiling n m few =
    let P : Bool → Type 0 = λ b. Right ceiling n (cond b (Some m) None) m in
    ⊎_elim
    (λ (lt : ceiling < m). subst P (sym (lt-leb m ceiling lt)) (omega arith))
    (λ (le : m ≤ ceiling). subst P (sym (le-leb m ceiling le)) refl)
    (cases_lt ceiling m)

-- no holder more than there are slots
holders_few : (c n : ℕ) (t : List ℕ) → Table n t → holders c t ≤ 4 * n
holders_few c n t ok = omega (arith, count_by-le-length (λ x. nat_eq x c) t, ok.size)

length_moved : (ceiling old new : ℕ) (v : Counts) → length (moved ceiling old new v) ≡ length v
length_moved ceiling old new v = length-set (less old v) new _ ∙ length-set v old _

other_moved : (ceiling old new c : ℕ) (v : Counts) → c ≢ old → c ≢ new → slice_index_or (moved ceiling old new v) c None ≡ slice_index_or v c None
other_moved ceiling old new c v not_old not_new = get_or-set_other (less old v) new c _ None not_new ∙ get_or-set_other v old c _ None not_old

-- a note that is followed leaves each count right
right_moved : (ceiling n s old new : ℕ) (v : Counts) (t : List ℕ) → n ≤ room v → Table n t → s < 4 * n → new ≤ n → slice_index t s ≡ old → old ≢ new
    → ((c : ℕ) → Cell n c → Right ceiling n (slice_index_or v c None) (holders c t))
    → (c : ℕ) → Cell n c → Right ceiling n (slice_index_or (moved ceiling old new v) c None) (holders c (slice_set t s new))
right_moved ceiling n s old new v t fits ok slot within was apart right c cell =
    let lt : s < length t = omega (arith, ok.size) in
    let total = holders_set c s new t lt in
    let at_old : hit c (slice_index t s) ≡ hit c old = ap (hit c) was in
    let few = holders_few c n (slice_set t s new) (table_set n s new t ok within) in
    ⊎_elim
    (λ (e : c ≡ new).
    let up : holders c (slice_set t s new) ≡ holders c t + 1 = omega (arith, total, at_old, hit_yes c new (sym e), hit_no c old (λ q. apart (q ∙ e))) in
    let lies : c < length (less old v) = omega (arith, length-set v old (lowered (slice_index_or v old None)), cell.0, cell.1) in
    let is : get_or (moved ceiling old new v) c None ≡ raised ceiling (slice_index_or v c None) =
    ap (λ (k : ℕ). get_or (one_more ceiling k (less old v)) c None) (sym e) ∙ get_or-set_same (less old v) c _ None lies
    ∙ ap (raised ceiling) (get_or-set_other v old c _ None (λ q. apart (sym q ∙ e))) in
    subst (λ (x : Option ℕ). Right ceiling n x (holders c (slice_set t s new))) (sym is)
    (subst (Right ceiling n (raised ceiling (slice_index_or v c None))) (sym up) (right_raised ceiling n (slice_index_or v c None) (holders c t) (omega arith) (right c cell))))
    (λ (not_new : c ≡ new → ⊥). ⊎_elim
    (λ (e : c ≡ old).
    let down : holders c t ≡ holders c (slice_set t s new) + 1 = omega (arith, total, at_old, hit_yes c old (sym e), hit_no c new (λ q. not_new (sym q))) in
    let lies : c < length v = omega (arith, cell.0, cell.1) in
    let is : get_or (moved ceiling old new v) c None ≡ lowered (slice_index_or v c None) =
    get_or-set_other (less old v) new c _ None not_new
    ∙ ap (λ (k : ℕ). get_or (less k v) c None) (sym e) ∙ get_or-set_same v c _ None lies in
    subst (λ (x : Option ℕ). Right ceiling n x (holders c (slice_set t s new))) (sym is)
    (right_lowered ceiling n (slice_index_or v c None) (holders c (slice_set t s new)) (subst (Right ceiling n (slice_index_or v c None)) down (right c cell))))
    (λ (not_old : c ≡ old → ⊥).
    let same : holders c (slice_set t s new) ≡ holders c t = omega (arith, total, at_old, hit_no c old (λ q. not_old (sym q)), hit_no c new (λ q. not_new (sym q))) in
    subst (λ (x : Option ℕ). Right ceiling n x (holders c (slice_set t s new))) (sym (other_moved ceiling old new c v not_old not_new))
    (subst (Right ceiling n (slice_index_or v c None)) (sym same) (right c cell)))
    (cases_eq c old))
    (cases_eq c new)

abbrev SomeNumber : Option ℕ → Type 0
SomeNumber x = (m : ℕ) × (x ≡ Some m)

told_lowered : (x : Option ℕ) → SomeNumber x ↔ SomeNumber (lowered x)
told_lowered (Some m) = (λ _. (m - 1, refl), λ _. (m, refl))
told_lowered None = (λ h. h, λ h. h)

-- down keeps told what was told
told_less : (v : Counts) (old c : ℕ) → SomeNumber (slice_index_or v c None) ↔ SomeNumber (slice_index_or (less old v) c None)
told_less v old c =
    let P : Option ℕ → Type 0 = λ x. SomeNumber (slice_index_or v c None) ↔ SomeNumber x in
    ⊎_elim
    (λ (e : c ≡ old). ⊎_elim
    (λ (lt : c < length v).
    subst P (sym (ap (λ (k : ℕ). get_or (less k v) c None) (sym e) ∙ get_or-set_same v c _ None lt)) (told_lowered (slice_index_or v c None)))
    (λ (past : length v ≤ c).
    subst P (sym (ap (λ (w : Counts). get_or w c None) (set_past v old _ (omega arith)))) (λ h. h, λ h. h))
    (cases_lt c (length v)))
    (λ (ne : c ≡ old → ⊥). subst P (sym (get_or-set_other v old c _ None ne)) (λ h. h, λ h. h))
    (cases_eq c old)

-- a note that empties a slot keeps told what was told: nothing goes up
told_moved : (ceiling old c : ℕ) (v : Counts) → 1 ≤ c → SomeNumber (slice_index_or v c None) ↔ SomeNumber (slice_index_or (moved ceiling old 0 v) c None)
told_moved ceiling old c v some =
    let not_0 : c ≢ 0 = λ e. omega arith in
    subst (λ (x : Option ℕ). SomeNumber (slice_index_or v c None) ↔ SomeNumber x) (sym (get_or-set_other (less old v) 0 c _ None not_0)) (told_less v old c)

module _ {L : Type 0} (ceiling : ℕ) (size : L → ℕ) (view : L → Counts) where
  abbrev ops : meaning.Ops L
  ops = bottom_ops ceiling size view

  abbrev Agrees : L → List ℕ → Type 0
  Agrees = BottomAgrees ceiling size view

  clears : (n : ℕ) (l l' : L) → n ≤ room (view l) → BottomClears ceiling size view n l l' → meaning.Cleared ops n l l'
  clears n l l' fits did = record {
    cells = did.cells;
    capacity = same_room;
    settled = refl;
    zeros = zeros;
    agrees = record {
      fits = omega (arith, did.cells, same_room);
      table = subst (λ (k : ℕ). Table k (replicate (4 * n) 0)) (sym did.cells) (table_empty n);
      right = λ c cell.
          subst (λ (x : Option ℕ). Right ceiling (size l') x (holders c (replicate (4 * n) 0))) (sym (zeros c (cell.0, omega (arith, cell.1, did.cells))))
          (sym (holders_empty c (4 * n) cell.0));
    };
  }
    where
      long : length (cleared n (view l)) ≡ suc (n + (length (view l) - (n + 1)))
      long = ap suc (length-append (replicate n (Some 0)) (drop (n + 1) (view l)) ∙ (λ i. length-replicate {A = Option ℕ} n (Some 0) i + length-drop (n + 1) (view l) i))

      same_room : room (view l') ≡ room (view l)
      same_room = omega (arith, ap length did.counts_are, long)

      zeros : (c : ℕ) → Cell n c → slice_index_or (view l') c None ≡ Some 0
      zeros zero cell = let h = cell.0 in absurd (omega arith)
      zeros (suc k) cell =
          let lt : k < n = omega (arith, cell.1) in
          ap (λ (v : Counts). get_or v (suc k) None) did.counts_are
          ∙ get_or_append_left (replicate n (Some 0)) (drop (n + 1) (view l)) None k (omega (arith, length-replicate {A = Option ℕ} n (Some 0)))
          ∙ get_or-replicate n k (Some 0) None lt

  -- a note changes nothing, or moves a reference
  note_cases : {s old new : ℕ} {l l' : L} → BottomNotes ceiling size view s old new l l'
      → (l' ≡ l) ⊎ (IsInRange (size l) s old new × Becomes ceiling size view (moved ceiling old new (view l)) l l')
  note_cases {s} {old} {new} {l} did =
      ⊎_elim
      (λ (e : old ≡ new). inl (did.same e))
      (λ (apart : old ≡ new → ⊥). ⊎_elim (λ range. inr (range, did.moves range apart)) (λ out. inl (did.outside out)) (decide_range (size l) s old new))
      (cases_eq old new)

  becomes_shape : {counts : Counts} {l l' : L} → length counts ≡ length (view l) → Becomes ceiling size view counts l l' → SameShape ops l l'
  becomes_shape long did = record { cells = did.cells; capacity = ap (λ (k : ℕ). min 1024 (k - 1)) (ap length did.counts_are ∙ long) }

  same_shape : {l l' : L} → l' ≡ l → SameShape ops l l'
  same_shape e = record { cells = ap size e; capacity = ap (λ (k : L). room (view k)) e }

  note_agrees : (s old new : ℕ) (l l' : L) (t : List ℕ) → BottomNotes ceiling size view s old new l l' → meaning.InRange ops l s old new → Agrees l t → slice_index t s ≡ old → Agrees l' (slice_set t s new)
  note_agrees s old new l l' t did range ag was =
      ⊎_elim
      (λ (e : old ≡ new).
      let same : set t s new ≡ t = ap (set t s) (sym (was ∙ e)) ∙ set-get_or t s 0 in
      subst (λ (k : L). Agrees k (slice_set t s new)) (sym (did.same e)) (subst (Agrees l) (sym same) ag))
      (λ (apart : old ≡ new → ⊥).
      let moves = did.moves range apart in
      let shape = becomes_shape (length_moved ceiling old new (view l)) moves in
      record {
        fits = omega (arith, shape.cells, shape.capacity, ag.fits);
        table = subst (λ (n : ℕ). Table n (slice_set t s new)) (sym moves.cells) (table_set (size l) s new t ag.table range.2);
        right = λ c cell.
            let here : Cell (size l) c = (cell.0, omega (arith, cell.1, moves.cells)) in
            let now_right = right_moved ceiling (size l) s old new (view l) t ag.fits ag.table range.0 range.2 was apart ag.right c here in
            subst (λ (n : ℕ). Right ceiling n (slice_index_or (view l') c None) (holders c (slice_set t s new))) (sym moves.cells)
            (subst (λ (v : Counts). Right ceiling (size l) (slice_index_or v c None) (holders c (slice_set t s new))) (sym moves.counts_are) now_right);
      })
      (cases_eq old new)

  recounts : (c m : ℕ) (l l' : L) (t : List ℕ) → BottomRecounts ceiling size view c m l l' → Cell (size l) c → Agrees l t → m ≡ holders c t → meaning.Recounted ops c m t l l'
  recounts c m l l' t did cell ag is = record {
    shape = shape;
    settled = refl;
    agrees = record {
      fits = omega (arith, shape.cells, shape.capacity, ag.fits);
      table = subst (λ (n : ℕ). Table n t) (sym sets.cells) ag.table;
      right = λ d here. subst (λ (n : ℕ). Right ceiling n (slice_index_or (view l') d None) (holders d t)) (sym sets.cells) (right d (here.0, omega (arith, here.1, sets.cells)));
    };
    told = λ le. at_c ∙ cond-true (nat_le m ceiling) (Some m) None (le-leb m ceiling le);
    stuck = λ lt. at_c ∙ cond-false (nat_le m ceiling) (Some m) None (lt-leb m ceiling lt);
    others = others;
  }
    where
      sets : Becomes ceiling size view (slice_set (view l) c (set_to ceiling m)) l l'
      sets = did.sets cell

      shape : SameShape ops l l'
      shape = becomes_shape (length-set (view l) c (set_to ceiling m)) sets

      at_c : get_or (view l') c None ≡ set_to ceiling m
      at_c =
          ap (λ (v : Counts). get_or v c None) sets.counts_are
          ∙ get_or-set_same (view l) c (set_to ceiling m) None (omega (arith, ag.fits, cell.0, cell.1))

      others : (d : ℕ) → d ≢ c → slice_index_or (view l') d None ≡ slice_index_or (view l) d None
      others d ne = ap (λ (v : Counts). get_or v d None) sets.counts_are ∙ get_or-set_other (view l) c d (set_to ceiling m) None ne

      right : (d : ℕ) → Cell (size l) d → Right ceiling (size l) (slice_index_or (view l') d None) (holders d t)
      right d here =
          let P : Option ℕ → Type 0 = λ x. Right ceiling (size l) x (holders d t) in
          ⊎_elim
          (λ (e : d ≡ c).
          let h : holders d t ≡ m = ap (λ (k : ℕ). holders k t) e ∙ sym is in
          subst P (sym (ap (λ (k : ℕ). get_or (view l') k None) e ∙ at_c))
          (subst (Right ceiling (size l) (set_to ceiling m)) (sym h) (right_set ceiling (size l) m (omega (arith, is, holders_few c (size l) t ag.table)))))
          (λ (ne : d ≡ c → ⊥). subst P (sym (others d ne)) (ag.right d here))
          (cases_eq d c)

  exact : (l : L) (t : List ℕ) (c m : ℕ) → Agrees l t → Cell (size l) c → slice_index_or (view l) c None ≡ Some m → m ≡ holders c t
  exact l t c m ag cell told = subst (λ (x : Option ℕ). Right ceiling (size l) x (holders c t)) told (ag.right c cell)

  some_number : (n h : ℕ) (x : Option ℕ) → 4 * n ≤ ceiling → Right ceiling n x h → SomeNumber x
  some_number n h (Some m) enough right = (m, refl)
  some_number n h None enough right = absurd (omega arith)

  emptied_told : {t t' : List ℕ} {l l' : L} → Emptied ops t l t' l' → (c : ℕ) → 1 ≤ c → Told ops l c ↔ Told ops l' c
  emptied_told none c some = (λ h. h, λ h. h)
  emptied_told {t} {t'} {l} {l'} (more {m = k} s lt did rest) c some =
      let later = emptied_told rest c some in
      let step : Told ops l c ↔ Told ops k c =
      ⊎_elim
      (λ (e : k ≡ l). subst (λ (j : L). Told ops l c ↔ Told ops j c) (sym e) (λ h. h, λ h. h))
      (λ moves. subst (λ (v : Counts). Told ops l c ↔ SomeNumber (slice_index_or v c None)) (sym moves.1.counts_are) (told_moved ceiling (slice_index t s) c (view l) some))
      (note_cases did) in
      (λ h. later.0 (step.0 h), λ h. step.1 (later.1 h))

  pub bottom_lawful : Lawful ops
  bottom_lawful = record {
    capacity_bound = λ l. omega arith;
    waiting_bound = λ l. omega arith;
    cells_bound = λ l t ag. ag.fits;
    table = λ l t ag. ag.table;
    clears = clears;
    note_agrees = note_agrees;
    note_shape = λ s old new l l' t did ag. ⊎_elim same_shape (λ moves. becomes_shape (length_moved ceiling old new (view l)) moves.1) (note_cases did);
    note_others = λ s old new l l' t did ag before after c not_old not_new.
        ⊎_elim
        (λ (e : l' ≡ l). ap (λ (k : L). get_or (view k) c None) e)
        (λ moves. ap (λ (v : Counts). get_or v c None) moves.1.counts_are ∙ other_moved ceiling old new c (view l) not_old not_new)
        (note_cases did);
    note_outside = λ s old new l l' t did ag out. did.outside out;
    settle_settles = λ l l' t did ag. refl;
    settle_agrees = λ l l' t did ag. subst (λ (k : L). Agrees k t) (sym did) ag;
    settle_shape = λ l l' t did ag. same_shape did;
    settle_rests = λ l l' t did ag settled. did;
    recounts = λ c m l l' t did settled cell ag is. recounts c m l l' t did cell ag is;
    recount_outside = λ c m l l' t did ag out. did.outside (λ cell. out (refl, cell));
    exact = λ l t c m settled ag cell told. exact l t c m ag cell told;
    complete = λ l t c enough settled ag cell. some_number (size l) (holders c t) (slice_index_or (view l) c None) enough (ag.right c cell);
    drained = λ l m l' t t' settled ag notes settles c cell.
        subst (λ (k : L). Told ops l c ↔ Told ops k c) (sym settles) (emptied_told notes c cell.0);
  }
