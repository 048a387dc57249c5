-- A queue over a lawful ledger is lawful. Nothing in this file has to be believed: it is checked proof.
use Rattle.std.specs.Prelude.{◌≡◌, ℕ, ◌*◌, ◌<◌, ◌≤◌, min, ◌⊎◌, ◌↔◌, List, [], ◌∷◌, ◌++◌, reverse, length, take, set, slice_index, slice_index_or, slice_set}
use Rattle.std.proofs.Common.{inl, inr, ⊎_elim, sym, ap, ◌∙◌, arith}
use Rattle.std.proofs.Math.Path.{refl, subst}
use Rattle.ledgers.specs.ChainLaws.{emptied_then, emptied_push}
use Rattle.ledgers.specs.Meaning.{Ops, Lawful, InRange, SameShape, Emptied, none, more, Told, Settled}
use Rattle.ledgers.specs.Meaning as meaning
use Rattle.ledgers.specs.TableLaws.{decide_range, table_set}
use Rattle.ledgers.specs.Tables.{Table, Cell, holders}
use Rattle.queue.specs.Queues.{held, waiting_notes, emptied, note_of, Undone, Passed, QueueAgrees, QueueClears, QueueNotes, QueueSettles, QueueRecounts, queue_waiting, queue_ops}
use Rattle.queue.specs.declared.queue.Note.{Note}
use Rattle.queue.specs.declared.queue.Notes.{Notes}
use Rattle.queue.specs.declared.queue.Queue.{Queue}
use Rattle.std.proofs.lemmas.List.{get_or-set_same, length-append, length-set, reverse-append, set-get_or, set-set}
use Rattle.std.proofs.lemmas.Bool.{cases_eq, cases_lt}
use Rattle.std.specs.List.{AllByRecursion}

-- a note done again after it was undone
redo : (t : List ℕ) (s old new : ℕ) → slice_index t s ≡ new → slice_set (slice_set t s old) s new ≡ t
redo t s old new is = set-set t s old new ∙ ap (set t s) (sym is) ∙ set-get_or t s 0

reverse_push : {X : Type 0} (xs : List X) (x : X) → reverse (xs ++ x ∷ []) ≡ x ∷ reverse xs
reverse_push xs x = reverse-append xs (x ∷ [])

-- where nothing is held, no note waits
none_held : (inner : Notes) → held inner ≡ 0 → reverse (waiting_notes inner) ≡ []
none_held inner e = ap (λ (k : ℕ). reverse (take k inner.at)) e

-- a range, for another ledger with the same n
abbrev Fits : ℕ → Note → Type 0
Fits n note = (note.slot < 4 * n) × (note.old ≤ n) × (note.new ≤ n)

module _ {L : Type 0} {o : Ops L} (p : Lawful o) where
  abbrev ops : Ops (Queue L)
  ops = queue_ops o

  same_shape : {l l' l'' : L} → SameShape o l l' → SameShape o l' l'' → SameShape o l l''
  same_shape a b = record { cells = b.cells ∙ a.cells; capacity = b.capacity ∙ a.capacity }

  no_change : {l l' : L} → l' ≡ l → SameShape o l l'
  no_change e = record { cells = ap o.cells e; capacity = ap o.capacity e }

  -- what passing notes down does to the ledger below
  pub record Down (l l' : L) (t : List ℕ) : Type 0 where
    pub agrees : o.Agrees l' t
    pub shape : SameShape o l l'

  -- the ledger below follows the notes from the table under them to the queue's own
  down : (notes : List Note) (l l' : L) (t under : List ℕ) → Passed o notes l l' → Undone notes t under → AllByRecursion (Fits (o.cells l)) notes → o.Agrees l under → Down l l' t
  down [] l l' t under same undone fits ag =
      record { agrees = subst (λ (k : L). o.Agrees k t) (sym same) (subst (o.Agrees l) undone ag); shape = no_change same }
  down (n ∷ older) l l' t under passed undone fits ag =
      let m = passed.0 in
      let before = down older l m (slice_set t n.slot n.old) under passed.1 undone.1 fits.1 ag in
      let cells = before.shape.cells in
      let slot : n.slot < 4 * o.cells m = omega (arith, cells, fits.0.0) in
      let range : InRange o m n.slot n.old n.new = (slot, omega (arith, cells, fits.0.1), omega (arith, cells, fits.0.2)) in
      let long = (p.table m _ before.agrees).size in
      let lies : n.slot < length t = omega (arith, slot, long, length-set t n.slot n.old) in
      let after = p.note_agrees n.slot n.old n.new m l' (slice_set t n.slot n.old) passed.2 range before.agrees (get_or-set_same t n.slot n.old 0 lies) in
      record {
        agrees = subst (o.Agrees l') (redo t n.slot n.old n.new undone.0) after;
        shape = same_shape before.shape (p.note_shape n.slot n.old n.new m l' _ passed.2 before.agrees);
      }

  -- the same, where the notes empty slots: a chain of its own
  down_emptied : (notes : List Note) (l l' : L) (t under : List ℕ) → Passed o notes l l' → Undone notes t under → AllByRecursion (Fits (o.cells l)) notes → AllByRecursion (λ n. n.new ≡ 0) notes → o.Agrees l under → Emptied o under l t l'
  down_emptied [] l l' t under same undone fits zeros ag =
      subst (λ (k : L). Emptied o under l t k) (sym same) (subst (λ (u : List ℕ). Emptied o under l u l) undone none)
  down_emptied (n ∷ older) l l' t under passed undone fits zeros ag =
      let m = passed.0 in
      let before = down older l m (slice_set t n.slot n.old) under passed.1 undone.1 fits.1 ag in
      let chain = down_emptied older l m (slice_set t n.slot n.old) under passed.1 undone.1 fits.1 zeros.1 ag in
      let long = (p.table m _ before.agrees).size in
      let lies : n.slot < length (slice_set t n.slot n.old) = omega (arith, long, before.shape.cells, fits.0.0) in
      let was : slice_index_or (slice_set t n.slot n.old) n.slot 0 ≡ n.old = get_or-set_same t n.slot n.old 0 (omega (arith, lies, length-set t n.slot n.old)) in
      let note : o.Notes n.slot (slice_index (slice_set t n.slot n.old) n.slot) 0 m l' =
      subst (λ (x : ℕ). o.Notes n.slot x 0 m l') (sym was) (subst (λ (x : ℕ). o.Notes n.slot n.old x m l') zeros.0 passed.2) in
      subst (λ (u : List ℕ). Emptied o under l u l') (redo t n.slot n.old 0 (undone.0 ∙ zeros.0)) (emptied_push n.slot chain lies note)

  -- the notes that wait, the newest first
  abbrev notes : Queue L → List Note
  notes q = reverse (waiting_notes q.inner)

  abbrev AllZero : List Note → Type 0
  AllZero = AllByRecursion (λ n. n.new ≡ 0)

  table_of : (ns : List Note) (n : ℕ) (t under : List ℕ) → Undone ns t under → AllByRecursion (Fits n) ns → Table n under → Table n t
  table_of [] n t under undone fits table = subst (Table n) undone table
  table_of (m ∷ older) n t under undone fits table =
      subst (Table n) (redo t m.slot m.old m.new undone.0)
      (table_set n m.slot m.new _ (table_of older n _ under undone.1 fits.1 table) fits.0.2)

  table : (q : Queue L) (t : List ℕ) → QueueAgrees o q t → Table (o.cells q.below) t
  table q t ag = table_of (notes q) (o.cells q.below) t ag.under ag.undone ag.ranges (p.table q.below ag.under ag.agrees)

  -- a settled queue holds nothing, and the ledger below is settled
  held_none : (q : Queue L) → Settled ops q → held q.inner ≡ 0
  held_none q settled = omega arith

  below_settled : (q : Queue L) → Settled ops q → Settled o q.below
  below_settled q settled = omega arith

  both_settled : (q : Queue L) → q.inner.len ≡ 0 → Settled o q.below → Settled ops q
  both_settled q len below = omega arith

  -- with no note waiting, a queue agrees with what the ledger below agrees with
  rested : (q : Queue L) (t : List ℕ) → QueueAgrees o q t → Settled ops q → o.Agrees q.below t
  rested q t ag settled =
      subst (o.Agrees q.below) (subst (λ (ns : List Note). Undone ns t ag.under) (none_held q.inner (held_none q settled)) ag.undone) ag.agrees

  empty_agrees : (q : Queue L) (t : List ℕ) → q.inner.len ≡ 0 → o.Agrees q.below t → QueueAgrees o q t
  empty_agrees q t len ag =
      let no_notes : [] ≡ notes q = sym (none_held q.inner (omega arith)) in
      record {
        few = omega arith;
        ranges = subst (AllByRecursion (λ n. InRange o q.below n.slot n.old n.new)) no_notes tt;
        under = t;
        undone = subst (λ (ns : List Note). Undone ns t t) no_notes refl;
        agrees = ag;
      }

  capacity_same : {q q' : Queue L} → SameShape o q.below q'.below → SameShape ops q q'
  capacity_same shape = record { cells = shape.cells; capacity = ap (min 1024) shape.capacity }

  -- a note that joins those that wait
  module _ (s old new : ℕ) (q q' : Queue L) (t : List ℕ) (did : QueueNotes o s old new q q') (range : InRange o q.below s old new) (ag : QueueAgrees o q t) (was : slice_index_or t s 0 ≡ old) where
    lies : s < length t
    lies = omega (arith, range.0, (table q t ag).size)

    written : slice_index_or (slice_set t s new) s 0 ≡ new
    written = get_or-set_same t s new 0 lies

    joined_list : (room : held q.inner < 64) → notes q' ≡ note_of s old new ∷ notes q
    joined_list room = ap reverse (did.joins range room).1 ∙ reverse_push (waiting_notes q.inner) (note_of s old new)

    joined : held q.inner < 64 → QueueAgrees o q' (slice_set t s new)
    joined room = record {
      few = did.few range;
      ranges =
          subst (AllByRecursion (λ n. InRange o q'.below n.slot n.old n.new)) (sym (joined_list room))
          (subst (λ (k : L). AllByRecursion (λ n. InRange o k n.slot n.old n.new) (note_of s old new ∷ notes q)) (sym (did.joins range room).0) (range, ag.ranges));
      under = ag.under;
      undone =
          subst (λ (ns : List Note). Undone ns (slice_set t s new) ag.under) (sym (joined_list room))
          (written, subst (λ (u : List ℕ). Undone (notes q) u ag.under) (sym (redo t s new old was)) ag.undone);
      agrees = subst (λ (k : L). o.Agrees k ag.under) (sym (did.joins range room).0) ag.agrees;
    }

    full_down : held q.inner ≡ 64 → Down q.below q'.below t
    full_down full = down (notes q) q.below q'.below t ag.under (did.starts range full).0 ag.undone ag.ranges ag.agrees

    started : held q.inner ≡ 64 → QueueAgrees o q' (slice_set t s new)
    started full =
        let list : note_of s old new ∷ [] ≡ notes q' = sym (ap reverse (did.starts range full).1) in
        let cells = (full_down full).shape.cells in
        record {
          few = did.few range;
          ranges = subst (AllByRecursion (λ n. InRange o q'.below n.slot n.old n.new)) list ((omega (arith, cells, range.0), omega (arith, cells, range.1), omega (arith, cells, range.2)), tt);
          under = t;
          undone = subst (λ (ns : List Note). Undone ns (slice_set t s new) t) list (written, sym (redo t s new old was));
          agrees = (full_down full).agrees;
        }

    room_or_full : (held q.inner < 64) ⊎ (held q.inner ≡ 64)
    room_or_full = ⊎_elim (λ (room : held q.inner < 64). inl room) (λ (full : 64 ≤ held q.inner). inr (omega arith)) (cases_lt (held q.inner) 64)

  -- a note in range leaves at least itself waiting
  some_wait : (s old new : ℕ) (q q' : Queue L) → QueueNotes o s old new q q' → InRange o q.below s old new → Settled ops q' → ⊥
  some_wait s old new q q' did range settled =
      let no_notes : waiting_notes q'.inner ≡ [] = ap (λ (k : ℕ). take k q'.inner.at) (held_none q' settled) in
      ⊎_elim
      (λ (room : held q.inner < 64).
      omega (arith, ap length (sym no_notes ∙ (did.joins range room).1), length-append (waiting_notes q.inner) (note_of s old new ∷ [])))
      (λ (full : 64 ≤ held q.inner).
      let e : held q.inner ≡ 64 = omega arith in
      omega (arith, ap length (sym no_notes ∙ (did.starts range e).1)))
      (cases_lt (held q.inner) 64)

  note_shape : (s old new : ℕ) (q q' : Queue L) (t : List ℕ) → QueueNotes o s old new q q' → QueueAgrees o q t → SameShape ops q q'
  note_shape s old new q q' t did ag =
      ⊎_elim
      (λ (range : InRange o q.below s old new). ⊎_elim
      (λ (room : held q.inner < 64). capacity_same (no_change (did.joins range room).0))
      (λ (full : 64 ≤ held q.inner).
      let e : held q.inner ≡ 64 = omega arith in
      capacity_same (down (notes q) q.below q'.below t ag.under (did.starts range e).0 ag.undone ag.ranges ag.agrees).shape)
      (cases_lt (held q.inner) 64))
      (λ out. capacity_same (no_change (ap (λ (k : Queue L). k.below) (did.outside out))))
      (decide_range (o.cells q.below) s old new)

  settled_down : (q q' : Queue L) (t : List ℕ) (did : QueueSettles o q q') → QueueAgrees o q t → Down q.below did.between t
  settled_down q q' t did ag = down (notes q) q.below did.between t ag.under did.passed ag.undone ag.ranges ag.agrees

  emptied_len : (q q' : Queue L) → q'.inner ≡ emptied q.inner → q'.inner.len ≡ 0
  emptied_len q q' e = ap (λ (i : Notes). i.len) e

  settle_rests : (q q' : Queue L) (t : List ℕ) → QueueSettles o q q' → QueueAgrees o q t → Settled ops q → q' ≡ q
  settle_rests q q' t did ag settled =
      let d = settled_down q q' t did ag in
      let same : did.between ≡ q.below = subst (λ (ns : List Note). Passed o ns q.below did.between) (none_held q.inner (held_none q settled)) did.passed in
      let quiet : Settled o did.between = ap o.waiting same ∙ below_settled q settled in
      let below : q'.below ≡ q.below = p.settle_rests did.between q'.below t did.below d.agrees quiet ∙ same in
      let len : 0 ≡ q.inner.len = omega (arith, held_none q settled) in
      let inner : q'.inner ≡ q.inner = did.inner ∙ (λ i. record { at = q.inner.at; len = len i }) in
      λ i. record { below = below i; inner = inner i }

  recounts : (c m : ℕ) (q q' : Queue L) (t : List ℕ) → QueueRecounts o c m q q' → Settled ops q → Cell (o.cells q.below) c → QueueAgrees o q t → m ≡ holders c t → meaning.Recounted ops c m t q q'
  recounts c m q q' t did settled cell ag is =
      let goes = did.goes_down settled in
      let r = p.recounts c m q.below q'.below t goes.0 (below_settled q settled) cell (rested q t ag settled) is in
      let len : q'.inner.len ≡ 0 = ap (λ (i : Notes). i.len) goes.1 ∙ (let h = held_none q settled in omega arith) in
      record {
        shape = capacity_same r.shape;
        settled = both_settled q' len r.settled;
        agrees = empty_agrees q' t len r.agrees;
        told = r.told;
        stuck = r.stuck;
        others = r.others;
      }

  recount_outside : (c m : ℕ) (q q' : Queue L) (t : List ℕ) → QueueRecounts o c m q q' → QueueAgrees o q t → (Settled ops q × Cell (o.cells q.below) c → ⊥) → q' ≡ q
  recount_outside c m q q' t did ag out =
      ⊎_elim
      (λ (settled : queue_waiting o q ≡ 0).
      let goes = did.goes_down settled in
      let below = p.recount_outside c m q.below q'.below t goes.0 (rested q t ag settled) (λ h. out (settled, h.1)) in
      let inner = goes.1 in
      λ i. record { below = below i; inner = inner i })
      (λ unsettled. did.unsettled unsettled)
      (cases_eq (queue_waiting o q) 0)

  -- a chain of notes that empty slots, as the ledger below goes through it
  pub record Walked (l : L) (under : List ℕ) (q : Queue L) (t : List ℕ) : Type 0 where
    pub agrees : QueueAgrees o q t
    pub zeros : AllZero (notes q)
    pub chain : Emptied o under l agrees.under q.below

  walk : {l : L} {under t t' : List ℕ} {q q' : Queue L} → Emptied ops t q t' q' → Walked l under q t → Walked l under q' t'
  unfolding joined started
  walk none w = w
  walk {l} {under} {t} {t'} {q} {q'} (more {m = k} s lt did rest) w =
      let ag = w.agrees in
      let ok = table q t ag in
      let range : InRange o q.below s (slice_index t s) 0 = (omega (arith, ok.size), ok.contents s, omega arith) in
      walk rest
      (⊎_elim
      (λ (room : held q.inner < 64). record {
        agrees = joined s (slice_index t s) 0 q k t did range ag refl room;
        zeros = subst AllZero (sym (joined_list s (slice_index t s) 0 q k t did range ag refl room)) (refl, w.zeros);
        chain = subst (λ (b : L). Emptied o under l ag.under b) (sym (did.joins range room).0) w.chain;
      })
      (λ (full : held q.inner ≡ 64). record {
        agrees = started s (slice_index t s) 0 q k t did range ag refl full;
        zeros = subst AllZero (sym (ap reverse (did.starts range full).1)) (refl, tt);
        chain = emptied_then w.chain (down_emptied (notes q) q.below k.below t ag.under (did.starts range full).0 ag.undone ag.ranges w.zeros ag.agrees);
      })
      (room_or_full s (slice_index t s) 0 q k t did range ag refl))

  drained : (q m q' : Queue L) (t t' : List ℕ) → Settled ops q → QueueAgrees o q t → Emptied ops t q t' m → QueueSettles o m q' → (c : ℕ) → Cell (o.cells q.below) c → Told ops q c ↔ Told ops q' c
  drained q m q' t t' settled ag notes_in settles c cell =
      let start : Walked q.below ag.under q t = record { agrees = ag; zeros = subst AllZero (sym (none_held q.inner (held_none q settled))) tt; chain = none } in
      let w = walk notes_in start in
      let last = down_emptied (notes m) m.below settles.between t' w.agrees.under settles.passed w.agrees.undone w.agrees.ranges w.zeros w.agrees.agrees in
      p.drained q.below settles.between q'.below ag.under t' (below_settled q settled) ag.agrees (emptied_then w.chain last) settles.below c cell

  clears : (n : ℕ) (q q' : Queue L) → n ≤ min 1024 (o.capacity q.below) → QueueClears o n q q' → meaning.Cleared ops n q q'
  clears n q q' fits did =
      let r = p.clears n q.below q'.below (omega arith) did.below in
      let len = emptied_len q q' did.inner in
      record {
        cells = r.cells;
        capacity = ap (min 1024) r.capacity;
        settled = both_settled q' len r.settled;
        zeros = r.zeros;
        agrees = empty_agrees q' _ len r.agrees;
      }

  pub queue_lawful : Lawful ops
  queue_lawful = record {
    capacity_bound = λ q. omega arith;
    waiting_bound = λ q. omega arith;
    cells_bound = λ q t ag. omega (arith, p.cells_bound q.below ag.under ag.agrees, p.capacity_bound q.below);
    table = table;
    clears = clears;
    note_agrees = λ s old new q q' t did range ag was.
        ⊎_elim (joined s old new q q' t did range ag was) (started s old new q q' t did range ag was) (room_or_full s old new q q' t did range ag was);
    note_shape = note_shape;
    note_others = λ s old new q q' t did ag before after c not_old not_new.
        ⊎_elim
        (λ (range : InRange o q.below s old new). absurd (some_wait s old new q q' did range after))
        (λ out. ap (λ (k : Queue L). o.tells k.below c) (did.outside out))
        (decide_range (o.cells q.below) s old new);
    note_outside = λ s old new q q' t did ag out. did.outside out;
    settle_settles = λ q q' t did ag. both_settled q' (emptied_len q q' did.inner) (p.settle_settles did.between q'.below t did.below (settled_down q q' t did ag).agrees);
    settle_agrees = λ q q' t did ag. empty_agrees q' t (emptied_len q q' did.inner) (p.settle_agrees did.between q'.below t did.below (settled_down q q' t did ag).agrees);
    settle_shape = λ q q' t did ag.
        let d = settled_down q q' t did ag in
        capacity_same (same_shape d.shape (p.settle_shape did.between q'.below t did.below d.agrees));
    settle_rests = settle_rests;
    recounts = recounts;
    recount_outside = recount_outside;
    exact = λ q t c m settled ag cell told. p.exact q.below t c m (below_settled q settled) (rested q t ag settled) cell told;
    complete = λ q t c enough settled ag cell. p.complete q.below t c enough (below_settled q settled) (rested q t ag settled) cell;
    drained = drained;
  }
