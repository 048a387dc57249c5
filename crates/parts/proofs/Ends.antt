-- How a description ends: refused for a fault, or as part of the drawing. Assumes nothing.
use Rattle.std.proofs.Common.{◌≡◌, ℕ, ◌+◌, ◌-◌, ◌<◌, ◌≤◌, Bool, true, false, cond, ltb, List, [], ◌∷◌, ◌++◌, length, get_or, set, Some, None, Ok, Err, vec_items, fold, count_by, Result, sym, refl, ap, ◌∙◌, subst, ⊎_elim, true≢false, arith}
use Rattle.std.specs.List.{list_any, ContainsAt as Has}
use Rattle.std.specs.Str.{bytes_eq}
use Rattle.std.proofs.lemmas.List.{length_push, get_or-set_same, get_or-set_other}
use Rattle.std.proofs.lemmas.List.Sums.{sum_by_push, sum_by-set}
use Rattle.std.proofs.lemmas.Bool.{cases_Bool, cond-true, cond-false, lt-ltb, le-ltb}
use Rattle.parts.specs.Building.{known, added, about, mark, fault_in, Building, Described, Numbered, Filled, Grown, Crowded, Unfit}
use Rattle.parts.specs.Drawn.{subject, mentions, firsts, Called, content}
use Rattle.parts.specs.Faults.{long, unprintable, fault_of}
use Rattle.parts.specs.Text.{Bytes}
use Rattle.parts.specs.declared.drawing.Drawing.{Drawing}
use Rattle.parts.specs.declared.fault.LineError.{LineError}
use Rattle.parts.specs.declared.fault.LineError.TheVariants.{Wrong, Memory}
use Rattle.parts.specs.declared.fault.Fault.{Fault}
use Rattle.parts.specs.declared.fault.Fault.TheVariants.{DescribedTwice, TooManyParts}
use Rattle.parts.proofs.Filling.{grown_then, called_grown}
use Rattle.parts.proofs.Firsts.{Distinct, among_decides, added_known, firsts_append, firsts_more, distinct_firsts, folded_long, called_as, called_once, called_has}
use Rattle.parts.proofs.Growing.{parts, marks, spaces}
use Rattle.parts.proofs.Steps.{Step, about_unknown, drawn_more, subjects_more, within_more, told_more}

-- a description, by other words for its words
pub described_as : (ds : List (List Bytes)) (ws vs : List Bytes) (after : Drawing) (r : Result (Unit {0}) LineError) → ws ≡ vs → Described ds vs after r → Described ds ws after r
described_as ds ws vs after r e h = subst (λ l. Described ds l after r) (sym e) h

none_first : (a b c : Bool) (x y z : Fault) → cond a (Some x) (cond b (Some y) (cond c (Some z) None)) ≡ None → (a ≡ false) × (b ≡ false) × (c ≡ false)
none_first true b c x y z e = let n : ◌≡◌ {A = ℕ} 0 1 = cc in absurd (omega arith)
none_first false true c x y z e = let n : ◌≡◌ {A = ℕ} 0 1 = cc in absurd (omega arith)
none_first false false true x y z e = let n : ◌≡◌ {A = ℕ} 0 1 = cc in absurd (omega arith)
none_first false false false x y z e = (refl, refl, refl)

-- the tests that the words pass by themselves
pub passes : (ws : List Bytes) → fault_in ws ≡ None → (ltb 5 (length ws) ≡ false) × (list_any long ws ≡ false) × (list_any unprintable ws ≡ false)
passes ws e = none_first (ltb 5 (length ws)) (list_any long ws) (list_any unprintable ws) _ _ _ e

module _ {ds : List (List Bytes)} {before : Drawing} (b : Building ds before) (ws : List Bytes) (fine : fault_in ws ≡ None) where
  -- the tests that are left
  late : fault_of ds ws ≡ cond (about (subject ws) ds) (Some DescribedTwice) (cond (ltb 1024 (length (fold added (known before) ws))) (Some TooManyParts) None)
  late =
      let p = passes ws fine in
      let few = p.0 in
      let short = p.1 in
      let clean = p.2 in
      let all : firsts (mentions (ds ++ ws ∷ [])) ≡ fold added (known before) ws = firsts_more ds ws ∙ ap (λ l. fold added l ws) (sym b.drawn.named) in
      rw (few, short, clean, all) refl

  fault_twice : about (subject ws) ds ≡ true → fault_of ds ws ≡ Some DescribedTwice
  fault_twice t = late ∙ cond-true _ _ _ t

  fault_crowded : about (subject ws) ds ≡ false → 1024 < length (fold added (known before) ws) → fault_of ds ws ≡ Some TooManyParts
  fault_crowded f h = late ∙ cond-false _ _ _ f ∙ cond-true _ _ _ (lt-ltb 1024 (length (fold added (known before) ws)) h)

  fault_none : about (subject ws) ds ≡ false → length (fold added (known before) ws) ≤ 1024 → fault_of ds ws ≡ None
  fault_none f h = late ∙ cond-false _ _ _ f ∙ cond-false _ _ _ (le-ltb 1024 (length (fold added (known before) ws)) h)

-- the mark of a part says whether it is described
about_mark : {ds : List (List Bytes)} {d : Drawing} → Building ds d → (c : ℕ) (w : Bytes) → Called (known d) c w → about w ds ≡ mark d c
about_mark {ds} b c w h = ap (λ v. about v ds) (sym h.2) ∙ sym (b.told (c - 1) (omega (arith, h.0, h.1)))

pub described_unfit : {ds : List (List Bytes)} {before : Drawing} (b : Building ds before) (w : Bytes) (rest : List Bytes) → fault_in (w ∷ rest) ≡ None → (after : Drawing) (e : LineError) → Unfit w before e → Described ds (w ∷ rest) after (Err e)
described_unfit b w rest fine after Memory h = tt
described_unfit {ds} {before} b w rest fine after (Wrong e) h =
    ⊎_elim
    (λ twice. fault_twice b (w ∷ rest) fine (about_mark b twice.1.0 w twice.1.1 ∙ twice.1.2) ∙ ap Some (sym twice.0))
    (λ over.
    let unknown : Has (known before) w → ⊥ = λ was. omega (arith, over.1, ap length (added_known (known before) w was), parts before, before.few) in
    let more : 1024 < length (fold added (known before) (w ∷ rest)) = omega (arith, over.1, folded_long (added (known before) w) rest) in
    fault_crowded b (w ∷ rest) fine (about_unknown (known before) w ds b.subjects unknown) more ∙ ap Some (sym over.0))
    h

-- the rest of the drawing's fields, after the references
pub record Done (part n : ℕ) (full final : Drawing) : Type 0 where
  pub names : known final ≡ known full
  pub slots : vec_items final.slots ≡ vec_items full.slots
  pub described : vec_items final.described ≡ set (vec_items full.described) (part - 1) true
  pub lined : final.lines ≡ full.lines + 1
  pub referred : final.references ≡ full.references + n

-- one mark more, where there was none
pub count_marked : (d : Drawing) (c i : ℕ) → i ≡ c → 1 ≤ c → c ≤ length (known d) → mark d c ≡ false → d.lines + 1 ≡ count_by (λ b. b) (set (vec_items d.described) (i - 1) true)
count_marked d c i e some is f =
    let here : i - 1 ≡ c - 1 = omega arith in
    let bs = vec_items d.described in
    let old = ap {B = ℕ} (λ (t : Bool). cond t 1 0) (ap (λ k. get_or bs k false) here ∙ f) in
    omega (arith, d.counted, old, sum_by-set (λ (t : Bool). cond t 1 0) bs (i - 1) true false (omega (arith, marks d)))

module _ {ds : List (List Bytes)} {before mid : Drawing} {w : Bytes} {part : ℕ} (b : Building ds before) (num : Numbered w before mid part)
    (unmarked : mark mid part ≡ false) (rest : List Bytes) (fine : fault_in (w ∷ rest) ≡ None) where
  apart_mid : Distinct (known mid)
  apart_mid =
      subst Distinct (sym (num.grown.named ∙ ap (λ l. fold added l (w ∷ [])) b.drawn.named ∙ sym (firsts_append (mentions ds) (w ∷ [])))) (distinct_firsts (mentions ds ++ w ∷ []))

  fresh : about w ds ≡ false
  fresh =
      ⊎_elim
      (λ t.
      let was = called_has (known before) w ((among_decides (known before) w).0 t) in
      let same = called_once (known mid) apart_mid was.0 part w (called_grown num.grown was.0 w was.1) num.called in
      about_mark b was.0 w was.1 ∙ sym (num.grown.told (was.0 - 1)) ∙ ap (mark mid) same ∙ unmarked)
      (λ f. about_unknown (known before) w ds b.subjects (λ was. true≢false (sym ((among_decides (known before) w).1 was) ∙ f)))
      (cases_Bool (list_any (λ v. bytes_eq v w) (known before)))

  pub described_crowded : (after : Drawing) (e : LineError) → Crowded rest mid e → Described ds (w ∷ rest) after (Err e)
  described_crowded after Memory h = tt
  described_crowded after (Wrong e) h =
      let more : 1024 < length (fold added (known before) (w ∷ rest)) = omega (arith, h.1, ap (λ l. length (fold added l rest)) num.grown.named) in
      fault_crowded b (w ∷ rest) fine fresh more ∙ ap Some (sym h.0)

  module _ {full final : Drawing} (fill : Filled part rest mid full) (done : Done part (length rest) full final) (fits : length rest ≤ 4) where
    grown : Grown (w ∷ rest) before full
    grown = grown_then num.grown fill.grown

    named : known final ≡ fold added (known before) (w ∷ rest)
    named = done.names ∙ grown.named

    called : Called (known final) part w
    called = subst (λ l. Called l part w) (sym done.names) (called_grown fill.grown part w num.called)

    step : Step ds w rest part (known before) (known final) (vec_items before.slots) (vec_items final.slots)
    step = record {
      named = named;
      apart =
          subst Distinct (sym (named ∙ ap (λ l. fold added l (w ∷ rest)) b.drawn.named ∙ sym (firsts_append (mentions ds) (w ∷ rest)))) (distinct_firsts (mentions ds ++ (w ∷ rest)));
      called = called;
      fresh = fresh;
      fits = fits;
      size = spaces final;
      filled = λ f h. called_as (sym done.names) (ap (λ l. content l part f) (sym done.slots)) refl (fill.filled f h);
      others = λ i n. ap (λ l. get_or l i 0) done.slots ∙ fill.others i n ∙ num.same i;
    }

    marked : get_or (vec_items final.described) (part - 1) false ≡ true
    marked = ap (λ l. get_or l (part - 1) false) done.described ∙ get_or-set_same (vec_items full.described) (part - 1) true false (omega (arith, called.0, called.1, marks full, ap length done.names))

    unchanged : (k : ℕ) → (k ≡ part - 1 → ⊥) → get_or (vec_items final.described) k false ≡ get_or (vec_items before.described) k false
    unchanged k n = ap (λ l. get_or l k false) done.described ∙ get_or-set_other (vec_items full.described) (part - 1) k true false n ∙ grown.told k

    building : Building (ds ++ (w ∷ rest) ∷ []) final
    building = record {
      drawn = drawn_more b.drawn b.subjects step;
      lined = omega (arith, done.lined, grown.lined, b.lined, length_push ds (w ∷ rest));
      referred = omega (arith, done.referred, grown.referred, b.referred, sum_by_push (λ (ws : List Bytes). length ws - 1) ds (w ∷ rest));
      subjects = subjects_more b.drawn b.subjects step;
      told = told_more b.drawn b.subjects step (vec_items before.described) (vec_items final.described) (marks before) b.told unchanged marked;
      within = within_more b.drawn b.subjects step b.within;
    }

    pub described_done : Described ds (w ∷ rest) final (Ok tt)
    described_done = (fault_none b (w ∷ rest) fine fresh (omega (arith, ap length named, parts final, final.few)), building)
