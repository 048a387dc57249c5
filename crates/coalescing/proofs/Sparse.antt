-- The sparse set of entries: what a search, a changed entry and a new one do to it.
use Rattle.std.proofs.Common.{◌≡◌, ℕ, zero, suc, ◌+◌, ◌<◌, ◌≤◌, min, ◌≢◌, List, [], ◌∷◌, ◌++◌, length, get_or, take, set, sym, refl, ap, ◌∙◌, subst, ⊎_elim, arith}
use Rattle.coalescing.specs.LogLaws.{well_formed}
use Rattle.coalescing.specs.Logs.{entry_of, no_entry, size, entries, Unlogged, WellFormed, with_latest, renewed}
use Rattle.coalescing.specs.declared.log.Entries.{Entries}
use Rattle.coalescing.specs.declared.log.Entry.{Entry}
use Rattle.std.proofs.ByRecursion.{All-get_or, All-from_get_or}
use Rattle.std.proofs.lemmas.List.{length-set, length-take, length_push, get_or-set_same, get_or-set_other, get_or-take, get_or_push, get_or_append_left, take_more_set}
use Rattle.std.proofs.lemmas.Bool.{cases_eq, cases_lt}

entries_length : (e : Entries) → length e.at ≡ 64 → length (entries e) ≡ size e
entries_length e long = length-take (size e) e.at ∙ omega arith

pub entries_few : (e : Entries) (k : ℕ) → k < length (entries e) → k < size e
entries_few e k lt = omega (arith, length-take (size e) e.at)

pub search_fails : (e : Entries) (s : ℕ) → (get_or e.index s 0 < size e → (get_or e.at (get_or e.index s 0) no_entry).slot ≡ s → ⊥) → WellFormed e → Unlogged s (entries e)
search_fails e s fails formed =
    All-from_get_or (λ (x : Entry). x.slot ≢ s) (entries e) no_entry
    (λ k lt is.
    let points : get_or e.index s 0 ≡ k = ap (λ (x : ℕ). get_or e.index x 0) (sym is) ∙ formed.indexed k lt in
    let lies : k < size e = entries_few e k lt in
    fails (omega arith)
    (ap (λ (x : ℕ). (get_or e.at x no_entry).slot) points ∙ ap (λ (x : Entry). x.slot) (sym (get_or-take (size e) e.at k no_entry lies)) ∙ is))

take_set_at : {X : Type 0} (n : ℕ) (xs : List X) (i : ℕ) (a : X) → take n (set xs i a) ≡ set (take n xs) i a
take_set_at zero xs i a = refl
take_set_at (suc n) [] i a = refl
take_set_at (suc n) (x ∷ xs) zero a = refl
take_set_at (suc n) (x ∷ xs) (suc i) a = ap (λ ys. x ∷ ys) (take_set_at n xs i a)

pub renewed_entries : (e : Entries) (k new : ℕ) → k < length (entries e) → entries (renewed k new e) ≡ with_latest k new (entries e)
renewed_entries e k new lt =
    let same = get_or-take (size e) e.at k no_entry (entries_few e k lt) in
    take_set_at (size e) e.at k (entry_of (get_or e.at k no_entry).slot (get_or e.at k no_entry).first new)
    ∙ ap (λ (x : Entry). set (entries e) k (entry_of x.slot x.first new)) (sym same)

-- a changed entry keeps its slot
renewed_slot : (es : List Entry) (k new i : ℕ) → k < length es → (get_or (with_latest k new es) i no_entry).slot ≡ (get_or es i no_entry).slot
renewed_slot es k new i lt =
    let x = entry_of (get_or es k no_entry).slot (get_or es k no_entry).first new in
    ⊎_elim
    (λ (q : i ≡ k). subst (λ (j : ℕ). (get_or (set es k x) j no_entry).slot ≡ (get_or es j no_entry).slot) (sym q) (ap (λ (y : Entry). y.slot) (get_or-set_same es k x no_entry lt)))
    (λ (ne : i ≡ k → ⊥). ap (λ (y : Entry). y.slot) (get_or-set_other es k i x no_entry ne))
    (cases_eq i k)

pub renewed_formed : (e : Entries) (k new : ℕ) → k < length (entries e) → WellFormed e → WellFormed (renewed k new e)
renewed_formed e k new lt formed =
    let es = entries e in
    let are = renewed_entries e k new lt in
    well_formed (renewed k new e) formed.few
    (λ i less.
    let short = ap length are ∙ length-set es k _ in
    let slot : (get_or (entries (renewed k new e)) i no_entry).slot ≡ (get_or es i no_entry).slot = ap (λ (fs : List Entry). (get_or fs i no_entry).slot) are ∙ renewed_slot es k new i lt in
    ap (λ (s : ℕ). get_or e.index s 0) slot ∙ formed.indexed i (omega arith))

abbrev pub pushed : Entry → Entries → Entries
pushed x e = record { at = set e.at e.len x; len = e.len + 1; index = set e.index x.slot e.len }

pub pushed_entries : (e : Entries) (x : Entry) → length e.at ≡ 64 → e.len < 64 → entries (pushed x e) ≡ entries e ++ x ∷ []
pushed_entries e x long lt =
    let up : min (e.len + 1) 64 ≡ e.len + 1 = omega arith in
    let same : e.len ≡ min e.len 64 = omega arith in
    ap (λ (k : ℕ). take k (set e.at e.len x)) up
    ∙ take_more_set e.at e.len x (omega arith)
    ∙ ap (λ (k : ℕ). take k e.at ++ x ∷ []) same

-- the index points at the new entry, and still at those of other slots
pushed_indexed : (es : List Entry) (index : List ℕ) (x : Entry) → x.slot < length index → Unlogged x.slot es
    → ((k : ℕ) → k < length es → get_or index (get_or es k no_entry).slot 0 ≡ k)
    → (k : ℕ) → k < length (es ++ x ∷ []) → get_or (set index x.slot (length es)) (get_or (es ++ x ∷ []) k no_entry).slot 0 ≡ k
pushed_indexed es index x within free indexed k lt =
    let P : Entry → Type 0 = λ y. get_or (set index x.slot (length es)) y.slot 0 ≡ k in
    ⊎_elim
    (λ (less : k < length es).
    subst P (sym (get_or_append_left es (x ∷ []) no_entry k less))
    (get_or-set_other index x.slot (get_or es k no_entry).slot (length es) 0 (All-get_or (λ (y : Entry). y.slot ≢ x.slot) es k no_entry less free) ∙ indexed k less))
    (λ (ge : length es ≤ k).
    let last : length es ≡ k = omega (arith, length_push es x) in
    subst P (sym (get_or_push es x no_entry k last)) (get_or-set_same index x.slot (length es) 0 within ∙ last))
    (cases_lt k (length es))

pub pushed_formed : (e : Entries) (x : Entry) → length e.at ≡ 64 → length e.index ≡ 4096 → e.len < 64 → x.slot < 4096 → WellFormed e → Unlogged x.slot (entries e) → WellFormed (pushed x e)
pushed_formed e x long wide lt near formed free =
    let es = entries e in
    let len : length es ≡ e.len = entries_length e long ∙ omega arith in
    let points = pushed_indexed es e.index x (omega arith) free formed.indexed in
    well_formed (pushed x e) (omega arith)
    (subst (λ (fs : List Entry). (k : ℕ) → k < length fs → get_or (set e.index x.slot e.len) (get_or fs k no_entry).slot 0 ≡ k) (sym (pushed_entries e x long lt))
    (subst (λ (n : ℕ). (k : ℕ) → k < length (es ++ x ∷ []) → get_or (set e.index x.slot n) (get_or (es ++ x ∷ []) k no_entry).slot 0 ≡ k) len points))
