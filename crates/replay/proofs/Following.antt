-- A ledger that follows a table. Assumes nothing.
use Rattle.std.proofs.Common.{◌≡◌, ℕ, ◌+◌, ◌-◌, ◌*◌, ◌<◌, ◌≤◌, ◌≢◌, ◌↔◌, List, [], ◌∷◌, ◌++◌, length, get_or, take, set, Some, None, vec_items, sym, refl, ap, ◌∙◌, subst, ⊎_elim, arith}
use Rattle.ledgers.specs.Answers.{IsFirstZero}
use Rattle.ledgers.specs.Meaning.{Ops, Lawful, Settled}
use Rattle.ledgers.specs.Tables.{Cell}
use Rattle.replay.specs.Replays.{Follows, Kept, Replays, ZerosListed, edited}
use Rattle.parts.specs.declared.edits.Edit.{Edit}
use Rattle.replay.specs.declared.replay.Replayed.{Replayed}
use Rattle.std.proofs.ByRecursion.{has_append_left, has_push, has_push_cases}
use Rattle.std.proofs.lemmas.List.{take_more}
use Rattle.std.proofs.lemmas.Bool.{cases_lt}
use Rattle.std.specs.List.{ContainsAt as Has}

-- the cells told 0 that lie below `from` are listed, and no others
abbrev pub ListedBelow : {L : Type 0} → Ops L → ℕ → L → ℕ → List ℕ → Type 0
ListedBelow o n l from zeros = (c : ℕ) → Has zeros c ↔ (Cell n c × (o.tells l c ≡ Some 0) × (c < from))

module _ {L : Type 0} {o : Ops L} (p : Lawful o) where
  -- a note keeps it following
  pub followed : {n s content : ℕ} {t : List ℕ} {l l' : L} → content ≤ n → s < length t → o.Notes s (get_or t s 0) content l l' → Follows o n t l → Follows o n (set t s content) l'
  followed {n} {s} {content} {t} {l} {l'} le lt note f =
      let ok = p.table l t f.agrees in
      let cells = f.cells in
      record {
        cells = (p.note_shape s (get_or t s 0) content l l' t note f.agrees).cells ∙ cells;
        agrees = p.note_agrees s (get_or t s 0) content l l' t note (omega (arith, ok.size), ok.contents s, omega arith) f.agrees refl;
      }

  -- settle keeps it following, and settles it
  pub settled : {n : ℕ} {t : List ℕ} {l l' : L} → o.Settles l l' → Follows o n t l → Follows o n t l' × Settled o l'
  settled {n} {t} {l} {l'} settles f = (
    record { cells = (p.settle_shape l l' t settles f.agrees).cells ∙ f.cells; agrees = p.settle_agrees l l' t settles f.agrees },
    p.settle_settles l l' t settles f.agrees,
  )

  -- what is told is known by the table alone
  pub kept : {n : ℕ} {slots : List ℕ} {edits : List Edit} {l : L} {r : Replayed} → length slots ≡ 4 * n → Replays o n (edited slots edits) l r → Kept o.ceiling slots edits r
  kept {n} {slots} {edits} {l} {r} long replays = record {
    cells = n;
    table = long;
    size = replays.numbers.size;
    exact = λ c m cell is. p.exact l t c m replays.settled f.agrees (here c cell) (sym (told c cell) ∙ is);
    complete = λ c enough cell.
        let all = p.complete l t c (subst (λ (k : ℕ). 4 * k ≤ o.ceiling) (sym f.cells) enough) replays.settled f.agrees (here c cell) in
        told c cell ∙ all.1 ∙ ap (λ (m : ℕ). Some m) (p.exact l t c all.0 replays.settled f.agrees (here c cell) all.1);
    zeros = λ c. (
      λ has. let h = (replays.zeros c).0 has in (h.0, told c h.0 ∙ h.1),
      λ h. (replays.zeros c).1 (h.0, sym (told c h.0) ∙ h.1),
    );
  }
    where
      t : List ℕ
      t = edited slots edits

      f : Follows o n (edited slots edits) l
      f = replays.follows

      here : (c : ℕ) → Cell n c → Cell (o.cells l) c
      here c cell = (cell.0, omega (arith, f.cells, cell.1))

      told : (c : ℕ) → Cell n c → get_or (vec_items r.numbers) (c - 1) None ≡ o.tells l c
      told = replays.numbers.told

module _ {L : Type 0} (o : Ops L) (n from : ℕ) (l : L) (zeros : List ℕ) (cells : o.cells l ≡ n) (listed : ListedBelow o n l from zeros) where
  -- one cell more is told 0
  pub listed_more : (d : ℕ) → IsFirstZero o l from d → ListedBelow o n l (d + 1) (zeros ++ d ∷ [])
  listed_more d next c = (
    λ has. ⊎_elim
        (λ (old : Has zeros c). let h = (listed c).0 old in (h.0, h.1, omega (arith, h.2, next.from)))
        (λ (e : d ≡ c). subst (λ (k : ℕ). Cell n k × (o.tells l k ≡ Some 0) × (k < d + 1)) e ((next.cell.0, omega (arith, next.cell.1, cells)), next.zero_told, omega arith))
        (has_push_cases zeros d c has),
    λ told. ⊎_elim
        (λ (old : c < from). has_append_left zeros (d ∷ []) c ((listed c).1 (told.0, told.1, old)))
        (λ (past : from ≤ c). ⊎_elim
        (λ (before : c < d). absurd (next.first c (told.0.0, omega (arith, told.0.1, cells)) past before told.1))
        (λ (after : d ≤ c). subst (Has (zeros ++ d ∷ [])) (let lt = told.2 in omega arith) (has_push zeros d))
        (cases_lt c d))
        (cases_lt c from),
  )

  -- no cell from there on is told 0
  pub listed_all : ((e : ℕ) → Cell (o.cells l) e → from ≤ e → o.tells l e ≢ Some 0) → ZerosListed o n l zeros
  listed_all none c = (
    λ has. (((listed c).0 has).0, ((listed c).0 has).1),
    λ told. ⊎_elim
        (λ (old : c < from). (listed c).1 (told.0, told.1, old))
        (λ (past : from ≤ c). absurd (none c (told.0.0, omega (arith, told.0.1, cells)) past told.1))
        (cases_lt c from),
  )

edited_push : (t : List ℕ) (es : List Edit) (e : Edit) → edited t (es ++ e ∷ []) ≡ set (edited t es) e.slot e.content
edited_push t [] e = refl
edited_push t (x ∷ es) e = edited_push (set t x.slot x.content) es e

pub edited_more : (t : List ℕ) (es : List Edit) (i : ℕ) (d : Edit) → i < length es → edited t (take (i + 1) es) ≡ set (edited t (take i es)) (get_or es i d).slot (get_or es i d).content
edited_more t es i d lt = ap (edited t) (take_more es i d lt) ∙ edited_push t (take i es) (get_or es i d)
