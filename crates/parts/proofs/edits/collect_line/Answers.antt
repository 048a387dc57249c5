use Rattle.std.proofs.Common.{◌≡◌, map, None, sym, ap, ◌∙◌, subst}
use Rattle.parts.specs.Building.{known}
use Rattle.parts.specs.Drawn.{is_edit}
use Rattle.parts.specs.Edits.{edit_fault, Makes}
use Rattle.parts.proofs.Collecting.{one_edited}
use Rattle.parts.proofs.edits.collect_line.Goals as goal

pub returns : goal.returns
returns c =
    let names = known c.args.drawing.now in
    let edit = c.in_ok-edit.edit in
    let first = ap (map (λ w. w.now)) c.deref.ensures.value ∙ c.in_ok-words.ensures in
    let second = ap (map (λ w. w.now)) c.deref-2.ensures.value ∙ c.in_ok-words.ensures in
    let good = subst (λ ws. (edit_fault names ws ≡ None) × Makes names ws edit) second c.in_ok-edit.ensures in
    one_edited names _ _ _ edit (sym (c.if-not-is_edit.ensures ∙ ap is_edit first)) good.0 good.1 c.in_ok-push.ensures.items
