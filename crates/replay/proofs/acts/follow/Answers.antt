use Rattle.std.proofs.Common.{◌≡◌, ℕ, ◌*◌, ◌/◌, List, length, replicate, vec_items, ap, ◌∙◌, arith}
use Rattle.replay.specs.Replays.{Follows, edited}
use Rattle.replay.proofs.acts.follow.Goals as goal

pub returns : goal.returns
returns g c =
    let o = g.L.Ledger.ops in
    let n = length c.args.slots.now / 4 in
    let table = c.in_ok-table.table in
    let cleared = g.L.Ledger.laws.clears _ _ _ c.in_ok-clear.ensures.0 c.in_ok-clear.ensures.1 in
    let start : Follows o n (replicate (4 * n) 0) c.clear.new.self = record { cells = cleared.cells; agrees = cleared.agrees } in
    let empty : Follows o table.cells (vec_items table.slots) c.clear.new.self = rw (c.in_ok-table.ensures.cells, c.in_ok-table.ensures.slots) start in
    let filled : Follows o c.fill.new.self.cells (vec_items c.fill.new.self.slots) c.fill.new.ledger = rw c.fill.ensures.cells (c.in_ok-fill.ensures.follows empty) in
    let cells : c.fill.new.self.cells ≡ n = c.fill.ensures.cells ∙ c.in_ok-table.ensures.cells in
    let slots : vec_items c.change.new.self.slots ≡ edited c.args.slots.now c.args.edits.now = c.in_ok-change.ensures.changed ∙ ap (λ (t : List ℕ). edited t c.args.edits.now) c.in_ok-fill.ensures.filled in
    (omega arith, rw (← cells, ← slots) (c.in_ok-change.ensures.follows filled))
