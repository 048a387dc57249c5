use Rattle.std.proofs.Common.{ℕ, ◌+◌, ◌-◌, ◌*◌, ◌<◌, List, [], ◌∷◌, length, set, vec_items, sym, refl, ap, subst, arith, Bor}
use lib.ListN.{length-map}
use Rattle.std.proofs.lemmas.List.{get_or-map}
use Rattle.std.proofs.lemmas.Result.{err_from_is_err_and}
use Rattle.parts.specs.Building.{bytes, Numbered, Crowded}
use Rattle.parts.proofs.Filling.{crowded_more, filled_more, grown_long}
use Rattle.parts.proofs.Growing.{parts}
use Rattle.parts.proofs.drawing.Drawing.place.Goals as goal

shorter : (names : List (Bor (List ℕ))) (i : ℕ) → i < length names → i < length (bytes names)
shorter names i h = rw length-map h

pub returns-in_err-number : goal.returns-in_err-number
returns-in_err-number c =
    let p = err_from_is_err_and c.from_residual.result c.from_residual.ensures.1 in
    let names = c.args.names.now in
    let i = c.loop-slot.slot in
    let e = c.in_err-number.field-0.0 in
    rw (p.1, p.2)
    (crowded_more (bytes names) i c.args.self.now c.loop-slot.self e (shorter names i c.loop-slot-test.true) c.loop-slot.invariant.grown
    (subst (λ w. Crowded (w ∷ []) c.loop-slot.self e) (sym (get_or-map (λ w. w.now) names i _ [] c.loop-slot-test.true)) c.in_err-number.ensures))

pub index_mut-requires : goal.index_mut-requires
index_mut-requires c =
    let next = c.number.new.self in
    let num = c.in_ok-number.ensures in
    omega (arith, c.from.ensures, c.requires.is_part, c.requires.fits, c.loop-slot-test.true, parts next, next.slotted, grown_long c.loop-slot.invariant.grown, grown_long num.grown)

pub loop-slot-preserved : goal.loop-slot-preserved
loop-slot-preserved c =
    let names = c.args.names.now in
    let i = c.loop-slot.slot in
    let number = c.in_ok-number.number in
    filled_more c.args.part i number (bytes names) c.loop-slot.invariant
    (subst (λ w. Numbered w c.loop-slot.self c.number.new.self number) (sym (get_or-map (λ w. w.now) names i _ [] c.loop-slot-test.true)) c.in_ok-number.ensures)
    (record {
      names = refl;
      slots = ap (λ k. set (vec_items c.number.new.self.slots) (4 * (k - 1) + i) number) c.from.ensures;
      described = refl;
      lined = refl;
      referred = refl;
    })
    (shorter names i c.loop-slot-test.true) (rw length-map c.requires.fits) c.requires.is_part.0 c.requires.is_part.1
