-- The zero table over a lawful ledger is lawful. Nothing in this file has to be believed: it is checked proof.
use Rattle.std.specs.Prelude.{◌≡◌, ℕ, ◌*◌, ◌<◌, ◌≤◌, min, ◌≢◌, ◌⊎◌, List, slice_index, slice_set, refl}
use Rattle.std.proofs.Common.{inl, inr, ⊎_elim, sym, ap, subst, ◌∙◌, arith}
use Rattle.ledgers.specs.Meaning.{Ops, Lawful, Settled, InRange, SameShape, Cleared, Emptied, none, more, Recounted}
use Rattle.ledgers.specs.Tables.{holders, Cell}
use Rattle.std.proofs.lemmas.Bool.{cases_eq, cases_lt}
use Rattle.zeros.specs.declared.zeros.Zeros.{Zeros}
use Rattle.zeros.specs.ZeroTables.{bit, BitRight, BitsRight, ZerosAgrees, ZerosClears, ZerosNoted, ZerosNotes, ZerosSettles, ZerosRecounted, zeros_ops}

decide_range : (n s old new : ℕ) → ((s < 4 * n) × (old ≤ n) × (new ≤ n)) ⊎ ((s < 4 * n) × (old ≤ n) × (new ≤ n) → ⊥)
decide_range n s old new =
    ⊎_elim
    (λ (slot : s < 4 * n). ⊎_elim
    (λ (lt : n < old). inr (λ range. let h = range.1 in omega arith))
    (λ (o_fits : old ≤ n). ⊎_elim
    (λ (lt : n < new). inr (λ range. let h = range.2 in omega arith))
    (λ (n_fits : new ≤ n). inl (slot, o_fits, n_fits))
    (cases_lt n new))
    (cases_lt n old))
    (λ (past : 4 * n ≤ s). inr (λ range. let h = range.0 in omega arith))
    (cases_lt s (4 * n))

module _ {L : Type 0} {o : Ops L} (p : Lawful o) where
  abbrev ops : Ops (Zeros L)
  ops = zeros_ops o

  -- what the ledger below keeps of its shape, the table keeps
  shape_from : {z z' : Zeros L} → SameShape o z.below z'.below → SameShape ops z z'
  shape_from same = record { cells = same.cells; capacity = ap (λ (k : ℕ). min 1024 k) same.capacity }

  shape_same : {z z' : Zeros L} → z' ≡ z → SameShape ops z z'
  shape_same e = record { cells = ap (λ (k : Zeros L). o.cells k.below) e; capacity = ap (λ (k : Zeros L). min 1024 (o.capacity k.below)) e }

  -- a bit that stayed is right of a number that stayed
  right_stays : (z z' : Zeros L) (c : ℕ) → bit z'.inner c ≡ bit z.inner c → o.tells z'.below c ≡ o.tells z.below c
      → BitRight o z.below z.inner c → BitRight o z'.below z'.inner c
  right_stays z z' c same_bit same_told right = (λ on. same_told ∙ right.0 (sym same_bit ∙ on), λ told. same_bit ∙ right.1 (sym same_told ∙ told))

  clears : (n : ℕ) (z z' : Zeros L) → n ≤ min 1024 (o.capacity z.below) → ZerosClears o n z z' → Cleared ops n z z'
  clears n z z' fits did =
      let below = p.clears n z.below z'.below (omega arith) did.clears in
      record {
        cells = below.cells;
        capacity = ap (λ (k : ℕ). min 1024 k) below.capacity;
        settled = below.settled;
        zeros = below.zeros;
        agrees = record { agrees = below.agrees; right = did.rebuilt _ below.agrees };
      }

  note_agrees : (s old new : ℕ) (z z' : Zeros L) (t : List ℕ) → ZerosNotes o s old new z z' → InRange o z.below s old new → ZerosAgrees o z t → slice_index t s ≡ old → ZerosAgrees o z' (slice_set t s new)
  note_agrees s old new z z' t notes range ag was = record { agrees = after; right = λ settled. right settled }
    where
      did : ZerosNoted o s old new z z'
      did = notes.inside range

      after : o.Agrees z'.below (slice_set t s new)
      after = p.note_agrees s old new z.below z'.below t did.notes range ag.agrees was

      shape : SameShape o z.below z'.below
      shape = p.note_shape s old new z.below z'.below t did.notes ag.agrees

      -- settled before and after
      still : Settled o z.below → Settled o z'.below → BitsRight o z'.below z'.inner
      still was_settled settled c cell =
          ⊎_elim
          (λ (e : c ≡ old). subst (BitRight o z'.below z'.inner) (sym e) (did.fresh_old was_settled _ after settled (subst (Cell (o.cells z'.below)) e cell)))
          (λ (not_old : c ≡ old → ⊥). ⊎_elim
          (λ (e : c ≡ new). subst (BitRight o z'.below z'.inner) (sym e) (did.fresh_new was_settled _ after settled (subst (Cell (o.cells z'.below)) e cell)))
          (λ (not_new : c ≡ new → ⊥).
          right_stays z z' c (did.others was_settled settled c cell.0 not_old not_new)
          (p.note_others s old new z.below z'.below t did.notes ag.agrees was_settled settled c not_old not_new)
          (ag.right was_settled c (cell.0, omega (arith, cell.1, shape.cells))))
          (cases_eq c new))
          (cases_eq c old)

      right : Settled o z'.below → BitsRight o z'.below z'.inner
      right settled =
          ⊎_elim
          (λ (was_settled : Settled o z.below). still was_settled settled)
          (λ (waited : Settled o z.below → ⊥). did.rebuilt waited _ after settled)
          (cases_eq (o.waiting z.below) 0)

  note_shape : (s old new : ℕ) (z z' : Zeros L) (t : List ℕ) → ZerosNotes o s old new z z' → ZerosAgrees o z t → SameShape ops z z'
  note_shape s old new z z' t notes ag =
      ⊎_elim
      (λ (range : InRange o z.below s old new). shape_from (p.note_shape s old new z.below z'.below t (notes.inside range).notes ag.agrees))
      (λ (out : InRange o z.below s old new → ⊥). shape_same (notes.outside out))
      (decide_range (o.cells z.below) s old new)

  note_others : (s old new : ℕ) (z z' : Zeros L) (t : List ℕ) → ZerosNotes o s old new z z' → ZerosAgrees o z t → Settled o z.below → Settled o z'.below → (c : ℕ) → c ≢ old → c ≢ new → o.tells z'.below c ≡ o.tells z.below c
  note_others s old new z z' t notes ag was_settled settled c not_old not_new =
      ⊎_elim
      (λ (range : InRange o z.below s old new). p.note_others s old new z.below z'.below t (notes.inside range).notes ag.agrees was_settled settled c not_old not_new)
      (λ (out : InRange o z.below s old new → ⊥). ap (λ (k : Zeros L). o.tells k.below c) (notes.outside out))
      (decide_range (o.cells z.below) s old new)

  settle_agrees : (z z' : Zeros L) (t : List ℕ) → ZerosSettles o z z' → ZerosAgrees o z t → ZerosAgrees o z' t
  settle_agrees z z' t did ag = record {
    agrees = after;
    right = λ settled. ⊎_elim
        (λ (was_settled : Settled o z.below).
        let e = p.settle_rests z.below z'.below t did.settles ag.agrees was_settled in
        subst (λ (l : L). BitsRight o l z'.inner) (sym e) (subst (BitsRight o z.below) (sym (did.kept was_settled)) (ag.right was_settled)))
        (λ (waited : Settled o z.below → ⊥). did.rebuilt waited t after settled)
        (cases_eq (o.waiting z.below) 0);
  }
    where
      after : o.Agrees z'.below t
      after = p.settle_agrees z.below z'.below t did.settles ag.agrees

  settle_rests : (z z' : Zeros L) (t : List ℕ) → ZerosSettles o z z' → ZerosAgrees o z t → Settled o z.below → z' ≡ z
  settle_rests z z' t did ag settled =
      let e = p.settle_rests z.below z'.below t did.settles ag.agrees settled in
      λ i. record { below = e i; inner = did.kept settled i }

  recounts : (c m : ℕ) (z z' : Zeros L) (t : List ℕ) → ZerosRecounted o c m z z' → Settled o z.below → Cell (o.cells z.below) c → ZerosAgrees o z t → m ≡ holders c t → Recounted ops c m t z z'
  recounts c m z z' t did settled cell ag is = record {
    shape = shape_from below.shape;
    settled = below.settled;
    agrees = record { agrees = below.agrees; right = λ still. right still };
    told = below.told;
    stuck = below.stuck;
    others = below.others;
  }
    where
      below : Recounted o c m t z.below z'.below
      below = p.recounts c m z.below z'.below t did.recounts settled cell ag.agrees is

      right : Settled o z'.below → BitsRight o z'.below z'.inner
      right still d here =
          ⊎_elim
          (λ (e : d ≡ c). subst (BitRight o z'.below z'.inner) (sym e) (did.marked.fresh t below.agrees still (subst (Cell (o.cells z'.below)) e here)))
          (λ (ne : d ≡ c → ⊥).
          right_stays z z' d (did.marked.others d here.0 ne) (below.others d ne) (ag.right settled d (here.0, omega (arith, here.1, below.shape.cells))))
          (cases_eq d c)

  -- notes that empty slots of an agreed table are in range, so that the ledger below takes them all
  emptied_below : {t t' : List ℕ} {z z' : Zeros L} → ZerosAgrees o z t → Emptied ops t z t' z' → Emptied o t z.below t' z'.below
  emptied_below ag none = none
  emptied_below {t} {t'} {z} {z'} ag (more {m = k} s lt did rest) =
      let ok = p.table z.below t ag.agrees in
      let range : InRange o z.below s (slice_index t s) 0 = (omega (arith, ok.size), ok.contents s, omega arith) in
      more s lt (did.inside range).notes (emptied_below (note_agrees s (slice_index t s) 0 z k t did range ag refl) rest)

  pub zeros_lawful : Lawful ops
  zeros_lawful = record {
    capacity_bound = λ z. omega arith;
    waiting_bound = λ z. p.waiting_bound z.below;
    cells_bound = λ z t ag. omega (arith, p.cells_bound z.below t ag.agrees, p.capacity_bound z.below);
    table = λ z t ag. p.table z.below t ag.agrees;
    clears = clears;
    note_agrees = note_agrees;
    note_shape = note_shape;
    note_others = note_others;
    note_outside = λ s old new z z' t did ag out. did.outside out;
    settle_settles = λ z z' t did ag. p.settle_settles z.below z'.below t did.settles ag.agrees;
    settle_agrees = settle_agrees;
    settle_shape = λ z z' t did ag. shape_from (p.settle_shape z.below z'.below t did.settles ag.agrees);
    settle_rests = settle_rests;
    recounts = λ c m z z' t did settled cell ag is. recounts c m z z' t (did.inside settled cell) settled cell ag is;
    recount_outside = λ c m z z' t did ag out. did.outside out;
    exact = λ z t c m settled ag cell told. p.exact z.below t c m settled ag.agrees cell told;
    complete = λ z t c enough settled ag cell. p.complete z.below t c enough settled ag.agrees cell;
    drained = λ z m z' t t' settled ag notes settles c cell.
        p.drained z.below m.below z'.below t t' settled ag.agrees (emptied_below ag notes) settles.settles c cell;
  }
