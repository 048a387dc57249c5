use Rattle.std.proofs.Common.{◌≡◌, ℕ, ◌+◌, ◌-◌, ◌<◌, ◌≤◌, true, false, List, [], ◌∷◌, length, get_or, take, drop, set, None, Ok, Err, vec_items, sym, refl, ap, ◌∙◌, subst, arith, length-drop, Bor}
use lib.ListN.{length-map}
use Rattle.std.proofs.lemmas.List.{take_rest}
use Rattle.std.proofs.lemmas.Result.{err_from_is_err_and}
use Rattle.std.proofs.lemmas.Bool.{ltb-false}
use Rattle.parts.specs.Building.{bytes, mark, fault_in}
use Rattle.parts.specs.Text.{Bytes}
use Rattle.parts.proofs.Ends.{passes, count_marked, described_as, described_unfit, described_crowded, described_done}
use Rattle.parts.proofs.Filling.{called_grown, grown_long}
use Rattle.parts.proofs.Growing.{parts}
use Rattle.parts.proofs.drawing.Drawing.describe.Goals as goal

-- the references of a description
abbrev rest : List (Bor (List ℕ)) → List Bytes
rest words = bytes (take (length words - 1) (drop 1 words))

split : (words : List (Bor (List ℕ))) (d : Bor (List ℕ)) → 0 < length words → bytes words ≡ ((get_or words 0 d).now ∷ rest words)
split [] d h = absurd (omega arith)
split (w ∷ words) d h = ap (λ l. w.now ∷ bytes l) (sym (take_rest (w ∷ words) 1))

few : (words : List (Bor (List ℕ))) → fault_in (bytes words) ≡ None → length words ≤ 5
few words e = omega (arith, ltb-false 5 (length (bytes words)) (passes (bytes words) e).0, length-map words (λ w. w.now))

long : (words : List (Bor (List ℕ))) → length (rest words) ≡ length words - 1
long words = length-map (take (length words - 1) (drop 1 words)) (λ w. w.now) ∙ ap length (take_rest words 1) ∙ length-drop 1 words

fine : (words : List (Bor (List ℕ))) (d : Bor (List ℕ)) → 0 < length words → fault_in (bytes words) ≡ None → fault_in ((get_or words 0 d).now ∷ rest words) ≡ None
fine words d h e = subst (λ l. fault_in l ≡ None) (split words d h) e

pub returns-in_err-part : goal.returns-in_err-part
returns-in_err-part c ds b =
    let p = err_from_is_err_and c.from_residual-in_err-part.result c.from_residual-in_err-part.ensures.1 in
    let words = c.args.words.now in
    let e = c.in_err-part.field-0.0 in
    rw (p.1, p.2)
    (described_as ds _ _ c.subject.new.self (Err e) (split words _ c.requires.some)
    (described_unfit b _ (rest words) (fine words _ c.requires.some c.in_ok-check.ensures) c.subject.new.self e c.in_err-part.ensures))

pub returns-in_err-place : goal.returns-in_err-place
returns-in_err-place c ds b =
    let p = err_from_is_err_and c.from_residual-in_err-place.result c.from_residual-in_err-place.ensures.1 in
    let words = c.args.words.now in
    let e = c.in_err-place.field-0.0 in
    let num = c.in_ok-part.ensures in
    rw (p.1, p.2)
    (described_as ds _ _ c.place.new.self (Err e) (split words _ c.requires.some)
    (described_crowded b num.0 num.1 (rest words) (fine words _ c.requires.some c.in_ok-check.ensures) c.place.new.self e c.in_err-place.ensures))

pub index_mut-requires : goal.index_mut-requires
index_mut-requires c =
    let full = c.place.new.self in
    let is = c.in_ok-part.ensures.0.called in
    omega (arith, c.from.ensures, is.0, is.1, grown_long {after = full} c.in_ok-place.ensures.grown, parts full, full.marked)

pub invariant_of-self : goal.invariant_of-self
invariant_of-self c =
    let full = c.place.new.self in
    let num = c.in_ok-part.ensures in
    let fill = c.in_ok-place.ensures in
    let part = c.in_ok-part.part in
    let is = called_grown {after = full} fill.grown part _ num.0.called in
    let unmarked : mark full part ≡ false = fill.grown.told (part - 1) ∙ num.1 in
    record {
      slotted = full.slotted;
      marked = full.marked;
      few = full.few;
      counted = count_marked full part c.from.result c.from.ensures is.0 is.1 unmarked;
      bounded = omega (arith, full.bounded, few c.args.words.now c.in_ok-check.ensures);
    }

pub returns : goal.returns
returns c ds b =
    let words = c.args.words.now in
    let full = c.place.new.self in
    let num = c.in_ok-part.ensures in
    described_as ds _ _ _ (Ok tt) (split words _ c.requires.some)
    (described_done b num.0 num.1 (rest words) (fine words _ c.requires.some c.in_ok-check.ensures) c.in_ok-place.ensures
    (record {
      names = refl;
      slots = refl;
      described = ap (λ k. set (vec_items full.described) (k - 1) true) c.from.ensures;
      lined = refl;
      referred = ap (λ n. full.references + n) (sym (long words));
    })
    (omega (arith, few words c.in_ok-check.ensures, long words)))
