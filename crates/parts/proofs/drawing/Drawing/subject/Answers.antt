use Rattle.std.proofs.Common.{refl, sym, ◌∙◌, subst, inl}
use Rattle.parts.specs.Building.{Unfit}
use Rattle.parts.proofs.Growing.{mark_read, marked_known}
use Rattle.parts.proofs.drawing.Drawing.subject.Goals as goal

pub returns-then-index : goal.returns-then-index
returns-then-index c =
    let num = c.in_ok-part.ensures in
    let read = mark_read c.number.new.self c.in_ok-part.part c.from.result _ c.from.ensures num.called.0 num.called.1 c.index.ensures in
    let was = marked_known _ _ c.number.new.self _ num (read ∙ c.if-index.true) in
    subst (Unfit c.args.name.now c.args.self.now) (sym c.into.ensures) (inl (refl, (c.in_ok-part.part, was.0, was.1)))
