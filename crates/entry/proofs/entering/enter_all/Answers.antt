use Rattle.std.proofs.Common.{◌≡◌, ℕ, ◌*◌, List, length, vec_items, arith}
use Rattle.std.proofs.lemmas.List.{length-map}
use Rattle.entry.proofs.Blame.{refused}
use Rattle.heap.specs.States.{state}
use Rattle.parts.specs.Building.{known}
use Rattle.parts.specs.declared.drawing.Drawing.{Drawing}
use Rattle.entry.proofs.entering.enter_all.Goals as goal

all : (d : Drawing) (cells : List ℕ) → length (vec_items d.slots) ≡ 4 * length cells → length cells ≡ length (known d)
all d cells size = omega (arith, size, d.slotted, d.slots.ok, d.names.ok, length-map (vec_items d.names) (λ w. w.now))

pub returns-in_err-slots : goal.returns-in_err-slots
returns-in_err-slots g c = refused g.L.Ledger.ops _ _ _ _ (state c.args.heap.now) c.args.ledger.now c.from_residual-in_err-slots.result _ c.from_residual-in_err-slots.ensures.1 (all c.args.drawing.now _ c.in_ok-cells.ensures.size) c.in_err-slots.ensures

pub returns-in_err-token : goal.returns-in_err-token
returns-in_err-token g c = refused g.L.Ledger.ops _ _ _ _ (state c.args.heap.now) c.args.ledger.now c.from_residual-in_err-token.result _ c.from_residual-in_err-token.ensures.1 (all c.args.drawing.now _ c.in_ok-cells.ensures.size) c.in_err-token.ensures
