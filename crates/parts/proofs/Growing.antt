-- A drawing in which names become parts. Assumes nothing.
use Rattle.std.proofs.Common.{◌≡◌, ℕ, zero, suc, ◌-◌, ◌*◌, ◌≤◌, Bool, true, false, List, [], ◌∷◌, ◌++◌, map, length, get_or, vec_items, vec_len, ◌+◌, ◌<◌, ⊎_elim, true≢false, sym, refl, ap, ◌∙◌, arith, Bor}
use lib.ListN.{length-map}
use Rattle.std.specs.List.{AllWithin, HoldsAt, ContainsAt as Has}
use Rattle.std.proofs.lemmas.List.{get_or-map, get_or_past, get_or_append_left, map_push, length_push, get_or_push, get_or_read_under}
use Rattle.std.proofs.lemmas.Bool.{cases_lt}
use Rattle.parts.specs.declared.drawing.Drawing.{Drawing}
use Rattle.parts.specs.Building.{known, mark, Numbered}
use Rattle.parts.specs.Drawn.{Called}
use Rattle.parts.specs.Text.{Bytes}
use Rattle.parts.proofs.Firsts.{folded_more, added_known, added_new, has_called}

pub parts : (d : Drawing) → length (known d) ≡ vec_len d.names
parts d = length-map (vec_items d.names) (λ w. w.now) ∙ sym d.names.ok.0

pub marks : (d : Drawing) → length (vec_items d.described) ≡ length (known d)
marks d = sym d.described.ok.0 ∙ d.marked ∙ sym (parts d)

pub spaces : (d : Drawing) → length (vec_items d.slots) ≡ 4 * length (known d)
spaces d = omega (arith, d.slots.ok.0, d.slotted, parts d)

-- what stands in a list is the same if defaults come after it
pub get_or_padded : {X : Type 0} (d : X) (xs ys : List X) → ((k : ℕ) → get_or ys k d ≡ d) → (i : ℕ) → get_or (xs ++ ys) i d ≡ get_or xs i d
get_or_padded d [] ys h i = h i
get_or_padded d (x ∷ xs) ys h zero = refl
get_or_padded d (x ∷ xs) ys h (suc i) = get_or_padded d xs ys h i

abbrev pub empty : List ℕ
empty = 0 ∷ 0 ∷ 0 ∷ 0 ∷ []

get_or_empty : (k : ℕ) → get_or empty k 0 ≡ 0
get_or_empty zero = refl
get_or_empty (suc zero) = refl
get_or_empty (suc (suc zero)) = refl
get_or_empty (suc (suc (suc zero))) = refl
get_or_empty (suc (suc (suc (suc k)))) = refl

get_or_unmarked : (k : ℕ) → get_or (false ∷ []) k false ≡ false
get_or_unmarked zero = refl
get_or_unmarked (suc k) = refl

-- the parts of a drawing after a new one
pub record Newer (w : Bor (List ℕ)) (before after : Drawing) : Type 0 where
  pub names : vec_items after.names ≡ vec_items before.names ++ w ∷ []
  pub slots : vec_items after.slots ≡ vec_items before.slots ++ empty
  pub described : vec_items after.described ≡ vec_items before.described ++ false ∷ []
  pub lined : after.lines ≡ before.lines
  pub referred : after.references ≡ before.references

module _ {w : Bor (List ℕ)} {before after : Drawing} (new : Newer w before after) where
  known_newer : known after ≡ known before ++ w.now ∷ []
  known_newer = ap (map (λ v. v.now)) new.names ∙ map_push (λ v. v.now) (vec_items before.names) w

  pub numbered_new : (c : ℕ) → c ≡ vec_len after.names → (Has (known before) w.now → ⊥) → Numbered w.now before after c × (mark after c ≡ false)
  numbered_new c e n =
      let long = ap length known_newer ∙ length_push (known before) w.now in
      let all = parts after in
      let last : c - 1 ≡ length (known before) = omega arith in (
        record {
          grown = record {
            named = known_newer ∙ sym (added_new (known before) w.now n);
            told = λ k. ap (λ l. get_or l k false) new.described ∙ get_or_padded false (vec_items before.described) (false ∷ []) get_or_unmarked k;
            lined = new.lined;
            referred = new.referred;
          };
          called = (omega arith, omega arith, ap (λ l. get_or l (c - 1) []) known_newer ∙ get_or_push (known before) w.now [] (c - 1) (sym last));
          same = λ i. ap (λ l. get_or l i 0) new.slots ∙ get_or_padded 0 (vec_items before.slots) empty get_or_empty i;
        },
        ap (λ l. get_or l (c - 1) false) new.described ∙ get_or_push (vec_items before.described) false false (c - 1) (marks before ∙ sym last),
      )

-- a name that is known changes nothing
pub numbered_known : (w : Bytes) (d : Drawing) (c : ℕ) → Called (known d) c w → Numbered w d d c
numbered_known w d c h = record {
  grown = record { named = sym (added_known (known d) w (has_called (known d) c w h)); told = λ k. refl; lined = refl; referred = refl };
  called = h;
  same = λ i. refl;
}

-- the first part of a name, by its place
pub called_place : (names : List (Bor Bytes)) (w : Bytes) (i : ℕ) → i < length names → HoldsAt (λ v. v.now ≡ w) names i → Called (map (λ v. v.now) names) (i + 1) w
called_place [] w i h at = absurd (omega arith)
called_place (v ∷ vs) w i h at =
    let back : i + 1 - 1 ≡ i = omega arith in (
      omega arith,
      omega (arith, length-map (v ∷ vs) (λ u. u.now)),
      ap (λ k. get_or (map (λ u. u.now) (v ∷ vs)) k []) back ∙ get_or-map (λ u. u.now) (v ∷ vs) i v [] h ∙ at v,
    )

pub no_place : (names : List (Bor Bytes)) (w : Bytes) → AllWithin (λ v. v.now ≡ w → ⊥) names 0 (length names) → Has (map (λ v. v.now) names) w → ⊥
no_place [] w none h = absurd (omega (arith, h.1))
no_place (v ∷ vs) w none h =
    let long : h.0 < length (v ∷ vs) = omega (arith, h.1, length-map (v ∷ vs) (λ u. u.now)) in
    none h.0 v (omega arith) long (sym (get_or-map (λ u. u.now) (v ∷ vs) h.0 v [] long) ∙ h.2 [])

-- a name whose part has a mark was known before it got its number
pub marked_known : (w : Bytes) (before after : Drawing) (c : ℕ) → Numbered w before after c → mark after c ≡ true → Called (known before) c w × (mark before c ≡ true)
marked_known w before after c num marked =
    let was : mark before c ≡ true = sym (num.grown.told (c - 1)) ∙ marked in
    let few : c - 1 < length (vec_items before.described) =
    ⊎_elim (λ l. l) (λ g. absurd (true≢false (sym was ∙ get_or_past (vec_items before.described) (c - 1) false g))) (cases_lt (c - 1) (length (vec_items before.described))) in
    let here : c - 1 < length (known before) = omega (arith, few, marks before) in
    let more = folded_more (known before) (w ∷ []) in (
      (
        num.called.0,
        omega (arith, here, num.called.0),
        sym (ap (λ l. get_or l (c - 1) []) (num.grown.named ∙ more.1) ∙ get_or_append_left (known before) more.0 [] (c - 1) here) ∙ num.called.2,
      ),
      was,
    )

-- what the mark of a part is read as
pub mark_read : (d : Drawing) (c i : ℕ) (b : Bool) → i ≡ c → 1 ≤ c → c ≤ length (known d) → b ≡ get_or (vec_items d.described) (i - 1) b → mark d c ≡ b
mark_read d c i b e some h r =
    let here : c - 1 ≡ i - 1 = omega arith in
    ap (λ k. get_or (vec_items d.described) k false) here ∙ sym (get_or_read_under (vec_items d.described) (i - 1) (length (known d)) b false r (omega arith) (sym (marks d)))
