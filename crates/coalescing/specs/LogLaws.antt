-- A log over a lawful ledger is lawful. Nothing in this file has to be believed: it is checked proof.
use Rattle.std.specs.Prelude.{◌≡◌, ℕ, zero, suc, ◌+◌, ◌*◌, ◌<◌, ◌≤◌, min, ◌≢◌, ◌⊎◌, ◌↔◌, List, [], ◌∷◌, ◌++◌, length, take, set, slice_index, slice_index_or, slice_set, refl}
use Rattle.std.proofs.Common.{inl, inr, ⊎_elim, sym, ap, subst, ◌∙◌, arith}
use Rattle.coalescing.specs.Logs.{entry_of, no_entry, size, entries, emptied, Unlogged, OneASlot, WellFormed, Logged, with_latest, put_back, Takes, Stands, Sent, Passed, LogAgrees, Coalesced, again, other, LogNotes, LogClears, LogSettles, log_waiting, LogRecounts, log_ops}
use Rattle.coalescing.specs.declared.log.Entries.{Entries}
use Rattle.coalescing.specs.declared.log.Entry.{Entry}
use Rattle.coalescing.specs.declared.log.Log.{Log}
use Rattle.ledgers.specs.Meaning.{Ops, Lawful, Settled, Told, Emptied, none, more, SameShape, Cleared, Recounted, InRange}
use Rattle.ledgers.specs.TableLaws.{table_set}
use Rattle.ledgers.specs.Tables.{Table, holders, Cell}
use Rattle.std.proofs.ByRecursion.{All-get_or, All-from_get_or, All-push, All-set}
use Rattle.std.proofs.lemmas.List.{length-set, length-append, get_or-set_same, get_or-set_other, set-get_or, set-set, set_comm}
use Rattle.std.proofs.lemmas.Bool.{cases_eq, cases_lt}
use Rattle.std.specs.List.{AllByRecursion}

length_put_back : (es : List Entry) (t : List ℕ) → length (put_back es t) ≡ length t
length_put_back [] t = refl
length_put_back (e ∷ es) t = length-set (put_back es t) e.slot e.first ∙ length_put_back es t

put_back_append : (es fs : List Entry) (t : List ℕ) → put_back (es ++ fs) t ≡ put_back es (put_back fs t)
put_back_append [] fs t = refl
put_back_append (e ∷ es) fs t = ap (λ (u : List ℕ). set u e.slot e.first) (put_back_append es fs t)

-- a slot that no entry names is left alone
put_back_set : (es : List Entry) (t : List ℕ) (s x : ℕ) → Unlogged s es → put_back es (slice_set t s x) ≡ slice_set (put_back es t) s x
put_back_set [] t s x free = refl
put_back_set (e ∷ es) t s x free =
    ap (λ (u : List ℕ). set u e.slot e.first) (put_back_set es t s x free.1)
    ∙ set_comm (put_back es t) s e.slot x e.first (λ q. free.0 (sym q))

put_back_get_or : (es : List Entry) (t : List ℕ) (s : ℕ) → Unlogged s es → slice_index (put_back es t) s ≡ slice_index t s
put_back_get_or [] t s free = refl
put_back_get_or (e ∷ es) t s free =
    get_or-set_other (put_back es t) e.slot s e.first 0 (λ q. free.0 (sym q)) ∙ put_back_get_or es t s free.1

-- once the first entry is down, the others are to be put back
put_back_first : (e : Entry) (es : List Entry) (t : List ℕ) → Unlogged e.slot es → slice_index t e.slot ≡ e.latest
    → slice_set (put_back (e ∷ es) t) e.slot e.latest ≡ put_back es t
put_back_first e es t free is =
    set-set (put_back es t) e.slot e.first e.latest
    ∙ ap (set (put_back es t) e.slot) (sym (put_back_get_or es t e.slot free ∙ is))
    ∙ set-get_or (put_back es t) e.slot 0

-- a latest content does not show once the first contents are put back
put_back_again : (es : List Entry) (k s new : ℕ) (t : List ℕ) → OneASlot es → Logged k s es
    → put_back (with_latest k new es) (slice_set t s new) ≡ put_back es t
put_back_again [] k s new t one at = let h = at.0 in absurd (omega arith)
put_back_again (e ∷ es) zero s new t one at =
    ap (λ (x : ℕ). set (put_back es (slice_set t x new)) e.slot e.first) (sym at.1)
    ∙ ap (λ (u : List ℕ). set u e.slot e.first) (put_back_set es t e.slot new one.0)
    ∙ set-set (put_back es t) e.slot new e.first
put_back_again (e ∷ es) (suc k) s new t one at =
    let h = at.0 in
    ap (λ (u : List ℕ). set u e.slot e.first) (put_back_again es k s new t one.1 (omega arith, at.1))

-- a new entry puts back what its slot contained
put_back_new : (es : List Entry) (s old new : ℕ) (t : List ℕ) → slice_index t s ≡ old
    → put_back (es ++ entry_of s old new ∷ []) (slice_set t s new) ≡ put_back es t
put_back_new es s old new t was =
    put_back_append es (entry_of s old new ∷ []) (slice_set t s new)
    ∙ ap (put_back es) (set-set t s new old ∙ ap (set t s) (sym was) ∙ set-get_or t s 0)

stands_other : (n s new : ℕ) (t : List ℕ) (es : List Entry) → Unlogged s es → AllByRecursion (Stands n t) es → AllByRecursion (Stands n (slice_set t s new)) es
stands_other n s new t [] free stand = tt
stands_other n s new t (e ∷ es) free stand =
    let now = stand.0 in (
      record {
        slot_in = now.slot_in;
        first_in = now.first_in;
        latest_in = now.latest_in;
        contains = get_or-set_other t s e.slot new 0 free.0 ∙ now.contains;
      },
      stands_other n s new t es free.1 stand.1,
    )

stands_again : (n k s new : ℕ) (t : List ℕ) (es : List Entry) → OneASlot es → Logged k s es → s < length t → new ≤ n
    → AllByRecursion (Stands n t) es → AllByRecursion (Stands n (slice_set t s new)) (with_latest k new es)
stands_again n k s new t [] one at lt le stand = tt
stands_again n zero s new t (e ∷ es) one at lt le stand =
    let now = stand.0 in (
      record {
        slot_in = now.slot_in;
        first_in = now.first_in;
        latest_in = le;
        contains = ap (λ (x : ℕ). slice_index (slice_set t s new) x) at.1 ∙ get_or-set_same t s new 0 lt;
      },
      subst (λ (x : ℕ). AllByRecursion (Stands n (slice_set t x new)) es) at.1 (stands_other n e.slot new t es one.0 stand.1),
    )
stands_again n (suc k) s new t (e ∷ es) one at lt le stand =
    let now = stand.0 in
    let h = at.0 in
    let lies : k < length es = omega arith in
    let apart : e.slot ≢ s = λ q. All-get_or (λ (x : Entry). x.slot ≢ e.slot) es k no_entry lies one.0 (at.1 ∙ sym q) in (
      record {
        slot_in = now.slot_in;
        first_in = now.first_in;
        latest_in = now.latest_in;
        contains = get_or-set_other t s e.slot new 0 apart ∙ now.contains;
      },
      stands_again n k s new t es one.1 (lies, at.1) lt le stand.1,
    )

no_entries : (e : Entries) → size e ≡ 0 → entries e ≡ []
no_entries e z = ap (λ (k : ℕ). take k e.at) z

emptied_same : (e : Entries) → e.len ≡ 0 → emptied e ≡ e
emptied_same e z = let long : ℕ → Entries = λ k. record { at = e.at; len = k; index = e.index } in ap long (sym z)

-- one index can point at one place only, so entries that it points back at are of different slots
points_apart : (f : ℕ → ℕ) (b : ℕ) (es : List Entry) → ((k : ℕ) → k < length es → f (slice_index_or es k no_entry).slot ≡ b + k) → OneASlot es
points_apart f b [] points = tt
points_apart f b (e ∷ es) points = (
  All-from_get_or (λ (x : Entry). x.slot ≢ e.slot) es no_entry
      (λ k lt q.
      let here = points 0 (omega arith) in
      let there = points (suc k) (omega arith) in
      let both = ap f q in
      omega arith),
  points_apart f (b + 1) es (λ k lt. let there = points (suc k) (omega arith) in omega arith),
)

-- so it suffices that the index points back at each entry
pub well_formed : (e : Entries) → e.len ≤ 64
    → ((k : ℕ) → k < length (entries e) → slice_index e.index (slice_index_or (entries e) k no_entry).slot ≡ k) → WellFormed e
well_formed e few indexed = record {
  few = few;
  one_a_slot = points_apart (λ s. slice_index e.index s) 0 (entries e) (λ k lt. let points = indexed k lt in omega arith);
  indexed = indexed;
}

pub takes_cases : (n s old new : ℕ) → Takes n s old new ⊎ (Takes n s old new → ⊥)
takes_cases n s old new =
    ⊎_elim
    (λ (slot : s < 4 * n). ⊎_elim
    (λ (near : s < 4096). ⊎_elim
    (λ (out : n < old). inr (λ range. let le = range.2 in omega arith))
    (λ (was : old ≤ n). ⊎_elim
    (λ (out : n < new). inr (λ range. let le = range.3 in omega arith))
    (λ (is : new ≤ n). inl (near, slot, was, is))
    (cases_lt n new))
    (cases_lt n old))
    (λ (out : 4096 ≤ s). inr (λ range. let lt = range.0 in omega arith))
    (cases_lt s 4096))
    (λ (out : 4 * n ≤ s). inr (λ range. let lt = range.1 in omega arith))
    (cases_lt s (4 * n))

same_log : {L : Type 0} {g g' : Log L} → g'.below ≡ g.below → g'.inner ≡ g.inner → g' ≡ g
same_log below inner = λ i. record { below = below i; inner = inner i }

pub passed_push : {L : Type 0} {o : Ops L} (es : List Entry) (e : Entry) (l m r : L) → Passed o es l m → Sent o e m r → Passed o (es ++ e ∷ []) l r
passed_push {L} {o} [] e l m r passed sent = (r, subst (λ (x : L). Sent o e x r) passed sent, refl)
passed_push (f ∷ es) e l m r passed sent = (passed.0, passed.1, passed_push es e passed.0 m r passed.2 sent)

emptied_push : {L : Type 0} {o : Ops L} {t t' : List ℕ} {l m r : L} → Emptied o t l t' m → (s : ℕ) → s < length t' → o.Notes s (slice_index t' s) 0 m r → Emptied o t l (slice_set t' s 0) r
emptied_push none s lt did = more s lt did none
emptied_push (more s₁ lt₁ did₁ rest) s lt did = more s₁ lt₁ did₁ (emptied_push rest s lt did)

module _ {L : Type 0} {o : Ops L} (p : Lawful o) where
  shape_refl : {l l' : L} → l' ≡ l → SameShape o l l'
  shape_refl e = record { cells = ap o.cells e; capacity = ap o.capacity e }

  shape_trans : {l m r : L} → SameShape o l m → SameShape o m r → SameShape o l r
  shape_trans a b = record { cells = b.cells ∙ a.cells; capacity = b.capacity ∙ a.capacity }

  -- an entry that goes down is followed by the ledger below
  sent_agrees : (e : Entry) (l m : L) (u : List ℕ) → Sent o e l m → o.Agrees l u → InRange o l e.slot e.first e.latest → slice_index u e.slot ≡ e.first
      → o.Agrees m (slice_set u e.slot e.latest) × SameShape o l m
  sent_agrees e l m u sent ag range was =
      ⊎_elim
      (λ (q : e.first ≡ e.latest).
      let same : set u e.slot e.latest ≡ u = ap (set u e.slot) (sym (was ∙ q)) ∙ set-get_or u e.slot 0 in
      (subst (λ (x : L). o.Agrees x (slice_set u e.slot e.latest)) (sym (sent.same q)) (subst (o.Agrees l) (sym same) ag), shape_refl (sent.same q)))
      (λ (ne : e.first ≡ e.latest → ⊥).
      let did = sent.noted ne in
      (p.note_agrees e.slot e.first e.latest l m u did range ag was, p.note_shape e.slot e.first e.latest l m u did ag))
      (cases_eq e.first e.latest)

  -- once all entries are down, the ledger below agrees with the table
  passed_agrees : (n : ℕ) (es : List Entry) (l l' : L) (t : List ℕ) → Passed o es l l' → o.cells l ≡ n → o.Agrees l (put_back es t) → OneASlot es → AllByRecursion (Stands n t) es
      → o.Agrees l' t × SameShape o l l'
  passed_agrees n [] l l' t passed is ag one stand = (subst (λ (x : L). o.Agrees x t) (sym passed) ag, shape_refl passed)
  passed_agrees n (e ∷ es) l l' t passed is ag one stand =
      let now = stand.0 in
      let ok = p.table l (put_back (e ∷ es) t) ag in
      let lies : e.slot < length (put_back es t) = omega (arith, now.slot_in, ok.size, is, length-set (put_back es t) e.slot e.first) in
      let range : InRange o l e.slot e.first e.latest = (omega (arith, now.slot_in, is), omega (arith, now.first_in, is), omega (arith, now.latest_in, is)) in
      let step = sent_agrees e l passed.0 (put_back (e ∷ es) t) passed.1 ag range (get_or-set_same (put_back es t) e.slot e.first 0 lies) in
      let next = subst (o.Agrees passed.0) (put_back_first e es t one.0 now.contains) step.0 in
      let rest = passed_agrees n es passed.0 l' t passed.2 (step.1.cells ∙ is) next one.1 stand.1 in
      (rest.0, shape_trans step.1 rest.1)

  -- the same for the log's own: all of what agreeing says, gone down
  all_down : (g : Log L) (l' : L) (t : List ℕ) → LogAgrees o g t → Passed o (entries g.inner) g.below l' → o.Agrees l' t × SameShape o g.below l'
  all_down g l' t ag passed = passed_agrees (o.cells g.below) (entries g.inner) g.below l' t passed refl ag.below ag.formed.one_a_slot ag.stand

  -- with no entries a log agrees with what the ledger below agrees with, and the other way round
  pub agrees_empty : (g : Log L) (t : List ℕ) → g.inner.len ≡ 0 → o.Agrees g.below t → LogAgrees o g t
  agrees_empty g t z ag =
      let empty : entries g.inner ≡ [] = no_entries g.inner (omega arith) in
      record {
        formed = well_formed g.inner (omega arith) (λ k lt. let short = ap length empty in absurd (omega arith));
        table = p.table g.below t ag;
        stand = subst (AllByRecursion (Stands (o.cells g.below) t)) (sym empty) tt;
        below = subst (λ (es : List Entry). o.Agrees g.below (put_back es t)) (sym empty) ag;
      }

  settled_empty : (g : Log L) → log_waiting o g ≡ 0 → entries g.inner ≡ []
  settled_empty g z = no_entries g.inner (omega arith)

  settled_below : (g : Log L) (t : List ℕ) → log_waiting o g ≡ 0 → LogAgrees o g t → o.Agrees g.below t
  settled_below g t z ag = subst (λ (es : List Entry). o.Agrees g.below (put_back es t)) (settled_empty g z) ag.below

  -- after a note that is taken: the ledger below has not changed and agrees with the same table, or all went down before
  pub record Followed (s new : ℕ) (t : List ℕ) (g g' : Log L) : Type 0 where
    pub shape : SameShape o g.below g'.below
    pub stand : AllByRecursion (Stands (o.cells g.below) (slice_set t s new)) (entries g'.inner)
    pub down : ((g'.below ≡ g.below) × (put_back (entries g'.inner) (slice_set t s new) ≡ put_back (entries g.inner) t))
        ⊎ (Passed o (entries g.inner) g.below g'.below × (put_back (entries g'.inner) (slice_set t s new) ≡ t))

  stands_new : (n s old new : ℕ) (t : List ℕ) → s < 4 * n → length t ≡ 4 * n → old ≤ n → new ≤ n → Stands n (slice_set t s new) (entry_of s old new)
  stands_new n s old new t lt size was is = record {
    slot_in = lt;
    first_in = was;
    latest_in = is;
    contains = get_or-set_same t s new 0 (omega arith);
  }

  followed : (s old new : ℕ) (t : List ℕ) (g g' : Log L) → Coalesced o s old new g g' → Takes (o.cells g.below) s old new → LogAgrees o g t → slice_index t s ≡ old → Followed s new t g g'
  followed s old new t g g' (again k at is same) range ag was =
      let n = o.cells g.below in
      let es = entries g.inner in
      let one = ag.formed.one_a_slot in
      let lies : s < length t = omega (arith, range.1, ag.table.size) in
      record {
        shape = shape_refl same;
        stand = subst (AllByRecursion (Stands n (slice_set t s new))) (sym is) (stands_again n k s new t es one at lies range.3 ag.stand);
        down = inl (same, ap (λ (fs : List Entry). put_back fs (slice_set t s new)) is ∙ put_back_again es k s new t one at);
      }
  followed s old new t g g' (other free added) range ag was =
      let n = o.cells g.below in
      let es = entries g.inner in
      let new_stands = stands_new n s old new t range.1 ag.table.size range.2 range.3 in
      ⊎_elim
      (λ (lt : size g.inner < 64).
      let room = added.room lt in
      record {
        shape = shape_refl room.1;
        stand = subst (AllByRecursion (Stands n (slice_set t s new))) (sym room.0) (All-push (Stands n (slice_set t s new)) es (entry_of s old new) (stands_other n s new t es free ag.stand) new_stands);
        down = inl (room.1, ap (λ (fs : List Entry). put_back fs (slice_set t s new)) room.0 ∙ put_back_new es s old new t was);
      })
      (λ (ge : 64 ≤ size g.inner).
      let full = added.full (omega arith) in
      record {
        shape = (all_down g g'.below t ag full.1).1;
        stand = subst (AllByRecursion (Stands n (slice_set t s new))) (sym full.0) (new_stands, tt);
        down = inr (full.1, ap (λ (fs : List Entry). put_back fs (slice_set t s new)) full.0 ∙ put_back_new [] s old new t was);
      })
      (cases_lt (size g.inner) 64)

  abbrev lops : Ops (Log L)
  lops = log_ops o

  log_shape : {g g' : Log L} → SameShape o g.below g'.below → SameShape lops g g'
  log_shape shape = record { cells = shape.cells; capacity = ap (λ (k : ℕ). min k 1024) shape.capacity }

  -- in a log that agrees, a note in range is taken
  in_range : (s old new : ℕ) (g : Log L) (t : List ℕ) → LogAgrees o g t → InRange lops g s old new → Takes (o.cells g.below) s old new
  in_range s old new g t ag range =
      let cap = p.capacity_bound g.below in
      let few = p.cells_bound g.below (put_back (entries g.inner) t) ag.below in
      let lt = range.0 in
      (omega arith, range.0, range.1, range.2)

  note_agrees : (s old new : ℕ) (g g' : Log L) (t : List ℕ) → LogNotes o s old new g g' → InRange lops g s old new → LogAgrees o g t → slice_index t s ≡ old → LogAgrees o g' (slice_set t s new)
  note_agrees s old new g g' t did range ag was =
      let takes = in_range s old new g t ag range in
      let done = did.taken takes ag.formed in
      let after = followed s old new t g g' done.0 takes ag was in
      let n = o.cells g.below in
      let n' = o.cells g'.below in
      let same : n ≡ n' = sym after.shape.cells in
      record {
        formed = done.1;
        table = subst (λ (k : ℕ). Table k (slice_set t s new)) same (table_set n s new t ag.table range.2);
        stand = subst (λ (k : ℕ). AllByRecursion (Stands k (slice_set t s new)) (entries g'.inner)) same after.stand;
        below = ⊎_elim
            (λ stays. subst (o.Agrees g'.below) (sym stays.1) (subst (λ (x : L). o.Agrees x (put_back (entries g.inner) t)) (sym stays.0) ag.below))
            (λ went. subst (o.Agrees g'.below) (sym went.1) (all_down g g'.below t ag went.0).0)
            after.down;
      }

  -- the shape does not depend on what the slot contained
  note_shape : (s old new : ℕ) (g g' : Log L) (t : List ℕ) → LogNotes o s old new g g' → LogAgrees o g t → SameShape o g.below g'.below
  note_shape s old new g g' t did ag =
      ⊎_elim
      (λ (takes : Takes (o.cells g.below) s old new). elim (did.taken takes ag.formed).0 [
        | again k at is same ↦ shape_refl same
        | other free added ↦
            ⊎_elim
            (λ (lt : size g.inner < 64). shape_refl (added.room lt).1)
            (λ (ge : 64 ≤ size g.inner). (all_down g g'.below t ag (added.full (omega arith)).1).1)
            (cases_lt (size g.inner) 64)
      ])
      (λ out. shape_refl (ap (λ (x : Log L). x.below) (did.outside out)))
      (takes_cases (o.cells g.below) s old new)

  -- a note that is taken leaves an entry, so a log that was settled is not settled after it
  taken_waits : (s old new : ℕ) (g g' : Log L) → Coalesced o s old new g g' → log_waiting o g ≡ 0 → log_waiting o g' ≢ 0
  taken_waits s old new g g' (again k at is same) before after =
      let short = ap length (settled_empty g before) in
      let lt = at.0 in
      omega arith
  taken_waits s old new g g' (other free added) before after =
      let some = added.room (omega arith) in
      let short = ap length (settled_empty g' after) in
      let long = ap length some.0 ∙ length-append (entries g.inner) (entry_of s old new ∷ []) in
      omega arith

  note_others : (s old new : ℕ) (g g' : Log L) (t : List ℕ) → LogNotes o s old new g g' → LogAgrees o g t → log_waiting o g ≡ 0 → log_waiting o g' ≡ 0 → (c : ℕ) → o.tells g'.below c ≡ o.tells g.below c
  note_others s old new g g' t did ag before after c =
      ⊎_elim
      (λ (takes : Takes (o.cells g.below) s old new). absurd (taken_waits s old new g g' (did.taken takes ag.formed).0 before after))
      (λ out. ap (λ (x : Log L). o.tells x.below c) (did.outside out))
      (takes_cases (o.cells g.below) s old new)

  clears : (n : ℕ) (g g' : Log L) → n ≤ min (o.capacity g.below) 1024 → LogClears o n g g' → Cleared lops n g g'
  clears n g g' le did =
      let cleared = p.clears n g.below g'.below (omega arith) did.below in
      let z : g'.inner.len ≡ 0 = ap (λ (e : Entries). e.len) did.none in
      let waits = cleared.settled in
      record {
        cells = cleared.cells;
        capacity = ap (λ (k : ℕ). min k 1024) cleared.capacity;
        settled = omega arith;
        zeros = cleared.zeros;
        agrees = agrees_empty g' _ z cleared.agrees;
      }

  settle_below : (g g' : Log L) (t : List ℕ) → LogSettles o g g' → LogAgrees o g t → (o.Agrees g'.below t × SameShape o g.below g'.below) × Settled o g'.below
  settle_below g g' t did ag =
      let went = all_down g did.between t ag did.passed in (
        (p.settle_agrees did.between g'.below t did.settles went.0, shape_trans went.1 (p.settle_shape did.between g'.below t did.settles went.0)),
        p.settle_settles did.between g'.below t did.settles went.0,
      )

  settle_settles : (g g' : Log L) (t : List ℕ) → LogSettles o g g' → LogAgrees o g t → log_waiting o g' ≡ 0
  settle_settles g g' t did ag =
      let z : g'.inner.len ≡ 0 = ap (λ (e : Entries). e.len) did.none in
      let waits = (settle_below g g' t did ag).1 in
      omega arith

  settle_rests : (g g' : Log L) (t : List ℕ) → LogSettles o g g' → LogAgrees o g t → log_waiting o g ≡ 0 → g' ≡ g
  settle_rests g g' t did ag z =
      let still : did.between ≡ g.below = subst (λ (es : List Entry). Passed o es g.below did.between) (settled_empty g z) did.passed in
      let went = all_down g did.between t ag did.passed in
      let waits : o.waiting did.between ≡ 0 = ap o.waiting still ∙ omega arith in
      same_log (p.settle_rests did.between g'.below t did.settles went.0 waits ∙ still) (did.none ∙ emptied_same g.inner (omega arith))

  recounts : (c m : ℕ) (g g' : Log L) (t : List ℕ) → LogRecounts o c m g g' → log_waiting o g ≡ 0 → Cell (o.cells g.below) c → LogAgrees o g t → m ≡ holders c t → Recounted lops c m t g g'
  recounts c m g g' t did z cell ag is =
      let done = did.settled z in
      let after = p.recounts c m g.below g'.below t done.0 (omega arith) cell (settled_below g t z ag) is in
      let len : g'.inner.len ≡ g.inner.len = ap (λ (e : Entries). e.len) done.1 in
      let waits = after.settled in
      record {
        shape = log_shape after.shape;
        settled = omega arith;
        agrees = agrees_empty g' t (omega arith) after.agrees;
        told = after.told;
        stuck = after.stuck;
        others = after.others;
      }

  recount_outside : (c m : ℕ) (g g' : Log L) (t : List ℕ) → LogRecounts o c m g g' → LogAgrees o g t → ((log_waiting o g ≡ 0) × Cell (o.cells g.below) c → ⊥) → g' ≡ g
  recount_outside c m g g' t did ag out =
      ⊎_elim
      (λ (z : log_waiting o g ≡ 0).
      let done = did.settled z in
      same_log (p.recount_outside c m g.below g'.below t done.0 (settled_below g t z ag) (λ both. out (z, both.1))) done.1)
      (λ (nz : log_waiting o g ≡ 0 → ⊥). did.unsettled (⊎_elim (λ (lt : 0 < log_waiting o g). lt) (λ (le : log_waiting o g ≤ 0). absurd (nz (omega arith))) (cases_lt 0 (log_waiting o g))))
      (cases_eq (log_waiting o g) 0)

  -- Entries whose latest content is 0, gone down, are notes that empty slots.
  passed_emptied : (u : List ℕ) (b : L) (n : ℕ) (es : List Entry) (l l' : L) (t : List ℕ) → length t ≡ 4 * n → Passed o es l l' → OneASlot es → AllByRecursion (Stands n t) es → AllByRecursion (λ e. e.latest ≡ 0) es
      → Emptied o u b (put_back es t) l → Emptied o u b t l'
  passed_emptied u b n [] l l' t size passed one stand zeros chain = subst (λ (x : L). Emptied o u b t x) (sym passed) chain
  passed_emptied u b n (e ∷ es) l l' t size passed one stand zeros chain =
      let now = stand.0 in
      let sent = passed.1 in
      let w = put_back (e ∷ es) t in
      let lies : e.slot < length (put_back es t) = omega (arith, now.slot_in, size, length_put_back es t) in
      let within : e.slot < length w = omega (arith, length-set (put_back es t) e.slot e.first) in
      let was : slice_index_or w e.slot 0 ≡ e.first = get_or-set_same (put_back es t) e.slot e.first 0 lies in
      let to : set w e.slot 0 ≡ put_back es t = ap (set w e.slot) (sym zeros.0) ∙ put_back_first e es t one.0 now.contains in
      let step : Emptied o u b (slice_set w e.slot 0) passed.0 =
      ⊎_elim
      (λ (q : e.first ≡ e.latest).
      let same : set w e.slot 0 ≡ w = ap (set w e.slot) (sym (was ∙ q ∙ zeros.0)) ∙ set-get_or w e.slot 0 in
      subst (λ (x : L). Emptied o u b (slice_set w e.slot 0) x) (sym (sent.same q)) (subst (λ (v : List ℕ). Emptied o u b v l) (sym same) chain))
      (λ (ne : e.first ≡ e.latest → ⊥).
      emptied_push chain e.slot within
      (subst (λ (x : ℕ). o.Notes e.slot x 0 l passed.0) (sym was) (subst (λ (x : ℕ). o.Notes e.slot e.first x l passed.0) zeros.0 (sent.noted ne))))
      (cases_eq e.first e.latest) in
      passed_emptied u b n es passed.0 l' t size passed.2 one.1 stand.1 zeros.1 (subst (λ (v : List ℕ). Emptied o u b v passed.0) to step)

  -- While slots are emptied, every latest content is 0, and what went down is a chain of its own from where all began.
  pub record Draining (u : List ℕ) (b : L) (t : List ℕ) (g : Log L) : Type 0 where
    pub agrees : LogAgrees o g t
    pub zeros : AllByRecursion (λ e. e.latest ≡ 0) (entries g.inner)
    pub chain : Emptied o u b (put_back (entries g.inner) t) g.below

  zeros_after : (s old : ℕ) (g g' : Log L) → Coalesced o s old 0 g g' → AllByRecursion (λ e. e.latest ≡ 0) (entries g.inner) → AllByRecursion (λ e. e.latest ≡ 0) (entries g'.inner)
  zeros_after s old g g' (again k at is same) zeros =
      subst (AllByRecursion (λ e. e.latest ≡ 0)) (sym is) (All-set (λ e. e.latest ≡ 0) (entries g.inner) k _ refl zeros)
  zeros_after s old g g' (other free added) zeros =
      ⊎_elim
      (λ (lt : size g.inner < 64). subst (AllByRecursion (λ e. e.latest ≡ 0)) (sym (added.room lt).0) (All-push (λ e. e.latest ≡ 0) (entries g.inner) (entry_of s old 0) zeros refl))
      (λ (ge : 64 ≤ size g.inner). subst (AllByRecursion (λ e. e.latest ≡ 0)) (sym (added.full (omega arith)).0) (refl, tt))
      (cases_lt (size g.inner) 64)

  gone_down : (u : List ℕ) (b : L) (t : List ℕ) (g : Log L) (l' : L) → Draining u b t g → Passed o (entries g.inner) g.below l' → Emptied o u b t l'
  gone_down u b t g l' d passed =
      passed_emptied u b (o.cells g.below) (entries g.inner) g.below l' t d.agrees.table.size passed d.agrees.formed.one_a_slot d.agrees.stand d.zeros d.chain

  drain_note : (u : List ℕ) (b : L) (t : List ℕ) (g g' : Log L) (s : ℕ) → s < length t → LogNotes o s (slice_index t s) 0 g g' → Draining u b t g → Draining u b (slice_set t s 0) g'
  drain_note u b t g g' s lt did d =
      let ag = d.agrees in
      let range : InRange lops g s (slice_index t s) 0 = (omega (arith, ag.table.size), ag.table.contents s, omega arith) in
      let takes = in_range s (slice_index t s) 0 g t ag range in
      let done = did.taken takes ag.formed in
      let after = followed s (slice_index t s) 0 t g g' done.0 takes ag refl in
      record {
        agrees = note_agrees s (slice_index t s) 0 g g' t did range ag refl;
        zeros = zeros_after s (slice_index t s) g g' done.0 d.zeros;
        chain = ⊎_elim
            (λ stays. subst (λ (v : List ℕ). Emptied o u b v g'.below) (sym stays.1) (subst (λ (x : L). Emptied o u b (put_back (entries g.inner) t) x) (sym stays.0) d.chain))
            (λ went. subst (λ (v : List ℕ). Emptied o u b v g'.below) (sym went.1) (gone_down u b t g g'.below d went.0))
            after.down;
      }

  drain_all : (u : List ℕ) (b : L) {t t' : List ℕ} {g g' : Log L} → Emptied lops t g t' g' → Draining u b t g → Draining u b t' g'
  drain_all u b none d = d
  drain_all u b {t} {t'} {g} {g'} (more {m = k} s lt did rest) d = drain_all u b rest (drain_note u b t g k s lt did d)

  drained : (g m g' : Log L) (t t' : List ℕ) → log_waiting o g ≡ 0 → LogAgrees o g t → Emptied lops t g t' m → LogSettles o m g' → (c : ℕ) → Cell (o.cells g.below) c → Told lops g c ↔ Told lops g' c
  drained g m g' t t' z ag notes did c cell =
      let empty = settled_empty g z in
      let start : Draining t g.below t g = record {
        agrees = ag;
        zeros = subst (AllByRecursion (λ e. e.latest ≡ 0)) (sym empty) tt;
        chain = subst (λ (es : List Entry). Emptied o t g.below (put_back es t) g.below) (sym empty) none;
      } in
      let end = drain_all t g.below notes start in
      p.drained g.below did.between g'.below t t' (omega arith) (settled_below g t z ag) (gone_down t g.below t' m did.between end did.passed) did.settles c cell

  pub log_lawful : Lawful lops
  log_lawful = record {
    capacity_bound = λ g. omega arith;
    waiting_bound = λ g. omega arith;
    cells_bound = λ g t ag.
        let cap = p.capacity_bound g.below in
        let few = p.cells_bound g.below (put_back (entries g.inner) t) ag.below in
        omega arith;
    table = λ g t ag. ag.table;
    clears = clears;
    note_agrees = note_agrees;
    note_shape = λ s old new g g' t did ag. log_shape (note_shape s old new g g' t did ag);
    note_others = λ s old new g g' t did ag before after c not_old not_new. note_others s old new g g' t did ag before after c;
    note_outside = λ s old new g g' t did ag out. did.outside (λ takes. out (takes.1, takes.2, takes.3));
    settle_settles = settle_settles;
    settle_agrees = λ g g' t did ag. agrees_empty g' t (ap (λ (e : Entries). e.len) did.none) (settle_below g g' t did ag).0.0;
    settle_shape = λ g g' t did ag. log_shape (settle_below g g' t did ag).0.1;
    settle_rests = settle_rests;
    recounts = recounts;
    recount_outside = recount_outside;
    exact = λ g t c m z ag cell told. p.exact g.below t c m (omega arith) (settled_below g t z ag) cell told;
    complete = λ g t c enough z ag cell. p.complete g.below t c enough (omega arith) (settled_below g t z ag) cell;
    drained = drained;
  }
