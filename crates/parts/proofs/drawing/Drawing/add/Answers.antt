use Rattle.std.proofs.Common.{false, [], ◌∷◌, ◌++◌, length, sym, refl, ap, ◌∙◌, subst, arith}
use Rattle.std.proofs.lemmas.List.{length_push}
use Rattle.parts.specs.Building.{known, Crowded}
use Rattle.parts.proofs.Firsts.{added_new}
use Rattle.parts.proofs.Growing.{parts, numbered_new}
use Rattle.parts.proofs.drawing.Drawing.add.Goals as goal

pub returns-then-len-eq-MOST_PARTS : goal.returns-then-len-eq-MOST_PARTS
returns-then-len-eq-MOST_PARTS c =
    let names = known c.args.self.now in
    let long = ap length (added_new names c.args.name.now c.requires) ∙ length_push names c.args.name.now in
    subst (Crowded (c.args.name.now ∷ []) c.args.self.now) (sym c.into.ensures) (refl, omega (arith, long, parts c.args.self.now, c.len.ensures, c.if-len-eq-MOST_PARTS.true))

pub returns : goal.returns
returns c =
    numbered_new {w = c.args.name} {before = c.args.self.now}
    (record {
      names = c.push_reserved.ensures.items ∙ ap (λ l. l ++ c.args.name ∷ []) c.reserve.ensures.items;
      slots = c.in_ok-extend_from_slice.ensures.items;
      described = c.push_reserved-2.ensures.items ∙ ap (λ l. l ++ false ∷ []) c.reserve-2.ensures.items;
      lined = refl;
      referred = refl;
    })
    c.len-2.result c.len-2.ensures c.requires
