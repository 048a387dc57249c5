use Rattle.std.proofs.Common.{◌≡◌, take, vec_items}
use Rattle.replay.specs.Replays.{KeepsUp, edited}
use Rattle.replay.proofs.table.Table.change.Given as goal

abbrev pub invariant-loop-edit : goal.invariant-loop-edit
invariant-loop-edit g l = record {
  cells : l.self.cells ≡ l.initial.self.cells;
  changed : vec_items l.self.slots ≡ edited (vec_items l.initial.self.slots) (take l.edit-index l.edits);
  follows : KeepsUp g.L.Ledger.ops l.self.cells (vec_items l.initial.self.slots) (vec_items l.self.slots) l.initial.ledger l.ledger;
}
