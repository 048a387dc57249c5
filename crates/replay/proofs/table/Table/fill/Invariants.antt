use Rattle.std.proofs.Common.{◌≡◌, take, vec_items}
use Rattle.replay.specs.Replays.{KeepsUp}
use Rattle.replay.proofs.table.Table.fill.Given as goal

abbrev pub invariant-loop-slot : goal.invariant-loop-slot
invariant-loop-slot g l = record {
  cells : l.self.cells ≡ l.initial.self.cells;
  filled : take l.slot (vec_items l.self.slots) ≡ take l.slot l.contents;
  follows : KeepsUp g.L.Ledger.ops l.self.cells (vec_items l.initial.self.slots) (vec_items l.self.slots) l.initial.ledger l.ledger;
}
