-- What the searches for a free cell and an empty hold find.
use Rattle.std.proofs.Common.{◌≡◌, ℕ, zero, suc, ◌+◌, ◌-◌, ◌<◌, ◌≤◌, min, Bool, true, false, cond, eqb, ltb, ◌≢◌, List, [], ◌∷◌, length, get_or, Some, None, Option, MatchOption, sym, refl, ◌∙◌, ⊎_elim, arith}
use Rattle.heap.proofs.Flags.{length_flags, flag_at, flag_place}
use Rattle.heap.specs.Bits.{is_set, flags, ClearAt, FirstClear}
use Rattle.heap.specs.Calls.{all, some_empty, turn, FreeCell, FreeHold}
use Rattle.heap.specs.States.{view}
use Rattle.heap.specs.declared.graph.Graph.{Graph as Tables}
use Rattle.std.proofs.lemmas.List.FromFn.{get_or-range_with_len, length-range_with_len}
use Rattle.std.specs.List.{AllWithin, HoldsAt, range_with_len}
use Rattle.std.proofs.lemmas.Bool.{and_from, and_left, and_right, or_from, or_left, or_right, both_ways, cases_lt, cond-true, cond-false, eq-eqb, ne_eqb, lt-ltb, le-ltb}

pub all_false : (xs : List Bool) (i : ℕ) → i < length xs → get_or xs i false ≡ false → all xs ≡ false
all_false [] i l h = absurd (omega arith)
all_false (x ∷ xs) zero l h = and_left x (all xs) h
all_false (x ∷ xs) (suc i) l h = and_right x (all xs) (all_false xs i (omega arith) h)

pub all_true : (xs : List Bool) → ((i : ℕ) → i < length xs → get_or xs i false ≡ true) → all xs ≡ true
all_true [] h = refl
all_true (x ∷ xs) h = and_from x (all xs) (h 0 (omega arith)) (all_true xs (λ i l. h (suc i) (omega arith)))

pub some_yes : (xs : List ℕ) (i : ℕ) → i < length xs → get_or xs i 0 ≡ 0 → some_empty xs ≡ true
some_yes [] i l h = absurd (omega arith)
some_yes (x ∷ xs) zero l h = or_left (eqb x 0) (some_empty xs) (eq-eqb x 0 h)
some_yes (x ∷ xs) (suc i) l h = or_right (eqb x 0) (some_empty xs) (some_yes xs i (omega arith) h)

pub some_no : (xs : List ℕ) → ((i : ℕ) → i < length xs → get_or xs i 0 ≢ 0) → some_empty xs ≡ false
some_no [] h = refl
some_no (x ∷ xs) h = or_from (eqb x 0) (some_empty xs) (ne_eqb x 0 (h 0 (omega arith))) (some_no xs (λ i l. h (suc i) (omega arith)))

turn_after : (last n c : ℕ) → last < c → cond (ltb last c) (c - last) (c + n - last) ≡ c - last
turn_after last n c l = cond-true (ltb last c) (c - last) (c + n - last) (lt-ltb last c l)

turn_before : (last n c : ℕ) → c ≤ last → cond (ltb last c) (c - last) (c + n - last) ≡ c + n - last
turn_before last n c l = cond-false (ltb last c) (c - last) (c + n - last) (le-ltb last c l)

-- A clear bit comes no sooner than the first.
no_sooner : (m : List ℕ) (from c d : ℕ) → ClearAt m from c → from ≤ d → is_set m d ≡ false → c ≤ d
no_sooner m from c d h l f = ⊎_elim (λ s. absurd (both_ways (is_set m d) f (h.first d l s))) (λ s. s) (cases_lt d c)

-- Where all after the last given are in use, a clear bit stands no later than it.
no_later : (m : List ℕ) (last n k d : ℕ) → k ≡ min last n → ((e : ℕ) → k + 1 ≤ e → e < n + 1 → is_set m e ≡ true) → d ≤ n → is_set m d ≡ false → d ≤ last
no_later m last n k d i h l f = ⊎_elim (λ s. absurd (both_ways (is_set m d) f (h d (omega arith) (omega arith)))) (λ s. s) (cases_lt last d)

free_cell : (t : Tables) (c : ℕ) → 0 < c → c ≤ t.n → is_set t.used c ≡ false
    → ((d : ℕ) → 1 ≤ d → d ≤ t.n → is_set t.used d ≡ false → turn (view t) c ≤ turn (view t) d) → FreeCell (view t) (Some c)
free_cell t c h l f first =
    let e : get_or (flags t.n t.used) (c - 1) false ≡ false = flag_at t.n c t.used h l ∙ f in (
      record { least = h; most = l; free = e; first = λ d hd ld fd. first d hd ld (sym (flag_at t.n d t.used hd ld) ∙ fd) },
      all_false (flags t.n t.used) (c - 1) (omega (arith, length_flags t.n t.used)) e,
    )

-- A free cell after the last given.
pub found_after : (t : Tables) (k c : ℕ) → k ≡ min t.last t.n → c < t.n + 1 → ClearAt t.used (k + 1) c → FreeCell (view t) (Some c)
found_after t k c i l h =
    let after : t.last < c = omega (arith, h.least) in
    free_cell t c (omega arith) (omega arith) h.clear (λ d hd ld f.
    ⊎_elim
    (λ s. let n = no_sooner t.used (k + 1) c d h (omega arith) f in omega (arith, turn_after t.last t.n c after, turn_after t.last t.n d s, n))
    (λ s. omega (arith, turn_after t.last t.n c after, turn_before t.last t.n d s))
    (cases_lt t.last d))

-- All after the last given are in use: the search begins anew at 1.
pub found_round : (t : Tables) (k : ℕ) → k ≡ min t.last t.n → ((d : ℕ) → k + 1 ≤ d → d < t.n + 1 → is_set t.used d ≡ true)
    → (x : Option ℕ) → FirstClear t.used 1 (t.n + 1) x → FreeCell (view t) x
found_round t k i h (Some c) g =
    let before : c ≤ t.last = no_later t.used t.last t.n k c i h (omega (arith, g.0)) g.1.clear in
    free_cell t c (omega (arith, g.1.least)) (omega (arith, g.0)) g.1.clear (λ d hd ld f.
    let n = no_sooner t.used 1 c d g.1 hd f in
    let b = no_later t.used t.last t.n k d i h ld f in
    omega (arith, turn_before t.last t.n c before, turn_before t.last t.n d b, n))
found_round t k i h None g =
    all_true (flags t.n t.used) (λ j l.
    let w : j < t.n = omega (arith, length_flags t.n t.used) in
    flag_place t.n j t.used w ∙ g (j + 1) (omega arith) (omega arith))

-- What is found after the last given, or else from 1 on.
pub found : (t : Tables) (k : ℕ) → k ≡ min t.last t.n → (o : Option ℕ) → FirstClear t.used (k + 1) (t.n + 1) o
    → (x : Option ℕ) → MatchOption o (FirstClear t.used 1 (t.n + 1) x) (λ c. x ≡ Some c) → FreeCell (view t) x
found t k i (Some c) f x e = rw e (found_after t k c i f.0 f.1)
found t k i None f x g = found_round t k i f x g

-- A number of a range, at its place.
in_range : (from n d : ℕ) → from ≤ d → d < from + n → get_or (range_with_len from n) (d - from) 0 ≡ d
in_range from n d lo hi = omega (arith, get_or-range_with_len from n (d - from) 0 (omega arith))

-- What a search along a range finds.
pub found_clear : (m : List ℕ) (from end : ℕ) (x : Option ℕ)
    → (let cs = range_with_len from (end - from) in
    MatchOption x (AllWithin (λ d. is_set m d ≡ true) cs 0 (length cs)) (λ c. (is_set m c ≡ false) × (i : ℕ) × (i < length cs) × HoldsAt (λ d. d ≡ c) cs i × AllWithin (λ d. is_set m d ≡ true) cs 0 i))
    → FirstClear m from end x
found_clear m from end (Some c) h =
    let n = end - from in
    let i = h.1 in
    let l : i < n = omega (arith, h.2, length-range_with_len from n) in
    let e : c ≡ from + i = omega (arith, h.3 0, get_or-range_with_len from n i 0 l) in (
      omega arith,
      record {
        least = omega arith;
        clear = h.0;
        first = λ d lo hi. rw (in_range from n d lo (omega arith)) at (h.4 (d - from) 0 (omega arith) (omega arith));
      },
    )
found_clear m from end None h = λ d lo hi.
    let n = end - from in
    rw (in_range from n d lo (omega arith)) at (h (d - from) 0 (omega arith) (omega (arith, length-range_with_len from n)))

-- What a search along the holds finds.
pub found_hold : (t : Tables) → length t.holds ≡ 16 → (x : Option ℕ)
    → MatchOption x (AllWithin (λ c. c ≢ 0) t.holds 0 (length t.holds)) (λ k. (k < length t.holds) × HoldsAt (λ c. c ≡ 0) t.holds k × AllWithin (λ c. c ≢ 0) t.holds 0 k)
    → FreeHold (view t) x
found_hold t n (Some k) h = (
  record { within = omega (arith, h.0); empty = h.1 0; first = λ j l. h.2 j 0 (omega arith) l },
  some_yes t.holds k h.0 (h.1 0),
)
found_hold t n None h = some_no t.holds (λ i l. h i 0 (omega arith) l)
