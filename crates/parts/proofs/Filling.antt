-- References that are numbered and put into a part's slots, one by one. Assumes nothing.
use Rattle.std.proofs.Common.{◌≡◌, ℕ, ◌+◌, ◌-◌, ◌*◌, ◌<◌, ◌≤◌, false, List, [], ◌∷◌, ◌++◌, length, get_or, take, set, vec_items, fold, sym, ap, ◌∙◌, subst, ⊎_elim, arith}
use Rattle.std.proofs.lemmas.List.{take_more, length-take-le, get_or-take, get_or-set_same, get_or-set_other}
use Rattle.std.proofs.lemmas.Bool.{cases_lt}
use Rattle.parts.specs.Building.{known, added, Grown, Numbered, Filled, Crowded}
use Rattle.parts.specs.Drawn.{Called, content}
use Rattle.parts.specs.Text.{Bytes}
use Rattle.parts.specs.declared.drawing.Drawing.{Drawing}
use Rattle.parts.specs.declared.fault.LineError.{LineError}
use Rattle.parts.specs.declared.fault.LineError.TheVariants.{Wrong, Memory}
use Rattle.parts.proofs.Firsts.{folded_append, folded_long, folded_take, called_as, called_folded}
use Rattle.parts.proofs.Growing.{spaces}

-- one slot is written
pub record Put (i c : ℕ) (before after : Drawing) : Type 0 where
  pub names : known after ≡ known before
  pub slots : vec_items after.slots ≡ set (vec_items before.slots) i c
  pub described : vec_items after.described ≡ vec_items before.described
  pub lined : after.lines ≡ before.lines
  pub referred : after.references ≡ before.references

grown_put : {ws : List Bytes} {i c : ℕ} {before mid after : Drawing} → Grown ws before mid → Put i c mid after → Grown ws before after
grown_put old put = record {
  named = put.names ∙ old.named;
  told = λ k. ap (λ l. get_or l k false) put.described ∙ old.told k;
  lined = put.lined ∙ old.lined;
  referred = put.referred ∙ old.referred;
}

pub grown_then : {ws vs : List Bytes} {before mid after : Drawing} → Grown ws before mid → Grown vs mid after → Grown (ws ++ vs) before after
grown_then {ws} {vs} {before} old new = record {
  named = new.named ∙ ap (λ l. fold added l vs) old.named ∙ sym (folded_append (known before) ws vs);
  told = λ k. new.told k ∙ old.told k;
  lined = new.lined ∙ old.lined;
  referred = new.referred ∙ old.referred;
}

pub grown_long : {ws : List Bytes} {before after : Drawing} → Grown ws before after → length (known before) ≤ length (known after)
grown_long {ws} {before} g = omega (arith, ap length g.named, folded_long (known before) ws)

pub called_grown : {ws : List Bytes} {before after : Drawing} → Grown ws before after → (c : ℕ) (w : Bytes) → Called (known before) c w → Called (known after) c w
called_grown {ws} {before} g c w h = subst (λ l. Called l c w) (sym g.named) (called_folded (known before) ws c w h)

-- too many names up to one of a line's are too many names of the line
pub crowded_more : (ws : List Bytes) (i : ℕ) (before mid : Drawing) (e : LineError) → i < length ws → Grown (take i ws) before mid → Crowded (get_or ws i [] ∷ []) mid e → Crowded ws before e
crowded_more ws i before mid (Wrong f) h old over =
    let w = get_or ws i [] in
    let whole : fold added (known mid) (w ∷ []) ≡ fold added (known before) (take (i + 1) ws) =
    ap (λ l. fold added l (w ∷ [])) old.named ∙ sym (folded_append (known before) (take i ws) (w ∷ [])) ∙ ap (fold added (known before)) (sym (take_more ws i [] h)) in
    (over.0, omega (arith, over.1, ap length whole, folded_take (known before) ws (i + 1)))
crowded_more ws i before mid Memory h old over = tt

module _ (part i c : ℕ) (ws : List Bytes) {before mid next after : Drawing} (old : Filled part (take i ws) before mid)
    (num : Numbered (get_or ws i []) mid next c) (put : Put (4 * (part - 1) + i) c next after)
    (within : i < length ws) (fits : length ws ≤ 4) (some : 1 ≤ part) (is : part ≤ length (known before)) where
  here : 4 * (part - 1) + i < length (vec_items next.slots)
  here = omega (arith, within, fits, some, is, spaces next, grown_long old.grown, grown_long num.grown)

  front : length (take i ws) ≡ i
  front = length-take-le i ws (omega arith)

  elsewhere : (j : ℕ) → (j ≡ 4 * (part - 1) + i → ⊥) → get_or (vec_items after.slots) j 0 ≡ get_or (vec_items mid.slots) j 0
  elsewhere j n = ap (λ l. get_or l j 0) put.slots ∙ get_or-set_other (vec_items next.slots) (4 * (part - 1) + i) j c 0 n ∙ num.same j

  before_here : (f : ℕ) → f < i → Called (known after) (content (vec_items after.slots) part f) (get_or (take (i + 1) ws) f [])
  before_here f h =
      let kept = elsewhere (4 * (part - 1) + f) (λ e. omega arith) in
      let name = get_or-take i ws f [] h ∙ sym (get_or-take (i + 1) ws f [] (omega arith)) in
      let told = called_grown num.grown _ _ (old.filled f (omega (arith, front))) in
      called_as (sym put.names) (sym kept) name told

  at_here : (f : ℕ) → f ≡ i → Called (known after) (content (vec_items after.slots) part f) (get_or (take (i + 1) ws) f [])
  at_here f e =
      let placed = ap (λ k. content (vec_items after.slots) part k) e ∙ ap (λ l. get_or l (4 * (part - 1) + i) 0) put.slots ∙ get_or-set_same (vec_items next.slots) (4 * (part - 1) + i) c 0 here in
      let name = ap (λ k. get_or ws k []) (sym e) ∙ sym (get_or-take (i + 1) ws f [] (omega arith)) in
      called_as (sym put.names) (sym placed) name num.called

  pub filled_more : Filled part (take (i + 1) ws) before after
  filled_more =
      let more = length-take-le (i + 1) ws (omega arith) in
      record {
        grown = subst (λ l. Grown l before after) (sym (take_more ws i [] within)) (grown_put (grown_then old.grown num.grown) put);
        filled = λ f h. ⊎_elim (before_here f) (λ l. at_here f (omega (arith, h, more))) (cases_lt f i);
        others = λ j n. elsewhere j (λ e. n i (omega (arith, more)) e) ∙ old.others j (λ f h e. n f (omega (arith, more, front)) e);
      }
