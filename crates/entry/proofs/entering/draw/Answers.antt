use Rattle.std.proofs.Common.{◌≡◌, length, vec_items, sym, ap, ◌∙◌}
use Rattle.std.proofs.lemmas.List.{length-map}
use Rattle.entry.proofs.Blame.{refused}
use Rattle.heap.specs.States.{state}
use Rattle.parts.specs.Building.{known}
use Rattle.entry.proofs.entering.draw.Goals as goal

pub returns-in_err-cells : goal.returns-in_err-cells
returns-in_err-cells g c =
    let all : length c.names.result.now ≡ length (known c.args.drawing.now) = ap length c.names.ensures ∙ sym (length-map (vec_items c.args.drawing.now.names) (λ w. w.now)) in
    refused g.L.Ledger.ops _ _ _ _ (state c.args.heap.now) c.args.ledger.now c.from_residual-in_err-cells.result _ c.from_residual-in_err-cells.ensures.1 all c.in_err-cells.ensures

pub returns-in_err-put_references : goal.returns-in_err-put_references
returns-in_err-put_references g c =
    let all : length c.names.result.now ≡ length (known c.args.drawing.now) = ap length c.names.ensures ∙ sym (length-map (vec_items c.args.drawing.now.names) (λ w. w.now)) in
    refused g.L.Ledger.ops _ _ _ _ (state c.args.heap.now) c.args.ledger.now c.from_residual-in_err-put_references.result _ c.from_residual-in_err-put_references.ensures.1 (c.in_ok-cells.ensures.0 ∙ all) c.in_err-put_references.ensures
