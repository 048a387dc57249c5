use Rattle.std.proofs.Common.{◌≡◌, ℕ, ◌<◌, length, get_or, vec_items}
use Rattle.entry.specs.Tells.{Tells}
use Rattle.entry.specs.declared.answers.Told.{Told}
use Rattle.entry.proofs.answers.tell_all.Given as goal

abbrev pub invariant-loop-cell : goal.invariant-loop-cell
invariant-loop-cell g l =
    (length (vec_items l.parts) ≡ l.cell-index)
    × ((i : ℕ) (d : Told) → i < l.cell-index → Tells g.L.Ledger.ops l.ledger (get_or l.cells i 0) (get_or (vec_items l.parts) i d))
