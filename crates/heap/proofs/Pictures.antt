-- How a picture grows.
use Rattle.std.proofs.Common.{◌≡◌, ℕ, zero, suc, ◌+◌, ◌-◌, ◌*◌, ◌<◌, ◌≤◌, true, false, List, [], ◌∷◌, ◌++◌, length, get_or, take, drop, codes, decimal, sym, refl, ap, ◌∙◌, append_assoc, append-nil, arith, get_or-take, drop-cons}
use Rattle.heap.specs.Graph.{content}
use Rattle.std.proofs.lemmas.Grind.{common_steps}
use Rattle.heap.proofs.Flags.{flag_at}
use Rattle.heap.specs.Bits.{flags, is_set}
use Rattle.heap.specs.Pictures.{cell_row, cell_rows, mark, marks, row, slots_of}
use Rattle.heap.specs.States.{State, view}
use Rattle.heap.specs.declared.graph.Graph.{Graph as Tables}
use Rattle.std.proofs.lemmas.List.{take_more}
use Rattle.std.proofs.lemmas.Bool.{cond-false, cond-true}

marks_append : (xs ys : List ℕ) → marks (xs ++ ys) ≡ marks xs ++ marks ys
marks_append [] ys = refl
marks_append (x ∷ xs) ys = ap (λ (r : List ℕ). codes " " ++ (mark x ++ r)) (marks_append xs ys) ∙ ap (λ (r : List ℕ). codes " " ++ r) (sym (append_assoc (mark x) (marks xs) (marks ys)))

-- One more content.
pub marks_more : (xs : List ℕ) (i : ℕ) → i < length xs → marks (take i xs) ++ (codes " " ++ mark (get_or xs i 0)) ≡ marks (take (i + 1) xs)
marks_more xs i h =
    ap (λ (r : List ℕ). marks (take i xs) ++ (codes " " ++ r)) (sym (append-nil (mark (get_or xs i 0))))
    ∙ sym (ap marks (take_more xs i 0 h) ∙ marks_append (take i xs) (get_or xs i 0 ∷ []))

-- The row of a cell, by its bit in the use map.
pub free_row : (t : Tables) (c : ℕ) → 0 < c → c ≤ t.n → is_set t.used c ≡ false → [] ≡ cell_row (view t) c
free_row t c h l e = sym (cond-false (get_or (flags t.n t.used) (c - 1) false) _ _ (flag_at t.n c t.used h l ∙ e))

pub used_row : (t : Tables) (c : ℕ) → 0 < c → c ≤ t.n → is_set t.used c ≡ true → decimal c ++ row (slots_of (view t).graph c) ≡ cell_row (view t) c
used_row t c h l e = sym (cond-true (get_or (flags t.n t.used) (c - 1) false) _ _ (flag_at t.n c t.used h l ∙ e))

-- One more cell.
pub rows_more : (s : State) (c : ℕ) → 0 < c → cell_rows s (c - 1) ++ cell_row s c ≡ cell_rows s c
rows_more s zero h = absurd (omega arith)
rows_more s (suc i) h = let e : suc i - 1 ≡ i = omega arith in rw e refl

-- The four slots of a cell, as a part of the slots.
four : (xs : List ℕ) (i : ℕ) → i + 3 < length xs → take 4 (drop i xs) ≡ get_or xs i 0 ∷ get_or xs (i + 1) 0 ∷ get_or xs (i + 2) 0 ∷ get_or xs (i + 3) 0 ∷ []
four xs i h = grind (arith, common_steps, drop-cons)

pub four_slots : (t : Tables) (c i : ℕ) → i ≡ 4 * (c - 1) → 0 < c → c ≤ t.n → t.n ≤ 1024 → length t.slots ≡ 4096 → take 4 (drop i t.slots) ≡ slots_of (view t).graph c
four_slots t c i e h l m n =
    let at : (f j : ℕ) → j ≡ 4 * (c - 1) + f → f < 4 → get_or t.slots j 0 ≡ content (view t).graph c f = λ f j q lf. rw q (sym (get_or-take (4 * t.n) t.slots (4 * (c - 1) + f) 0 (omega arith))) in
    four t.slots i (omega arith)
    ∙ cc (at 0 i (omega arith) (omega arith), at 1 (i + 1) (omega arith) (omega arith), at 2 (i + 2) (omega arith) (omega arith), at 3 (i + 3) (omega arith) (omega arith))
