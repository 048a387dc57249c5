use Rattle.std.proofs.Common.{◌≡◌, ◌+◌, ◌-◌, take, drop, sym, refl, ap, arith, rules}
use Rattle.heap.proofs.Pictures.{four_slots, free_row, used_row}
use Rattle.heap.specs.Pictures.{row, slots_of}
use Rattle.heap.specs.States.{view}
use Rattle.std.proofs.Output.{writes_in_calls_nil, has_written_append, has_written_of_eq}
use Rattle.heap.proofs.heap.Heap.write_cell.Goals as goal

pub returns-then-not-test : goal.returns-then-not-test
returns-then-not-test g c plain ok =
    has_written_of_eq _ _ _ _ _ (free_row c.args.self.now.graph c.args.c (search rules) (search rules) (sym c.if-not-test.ensures))
    (record { wrote = writes_in_calls_nil _ _; plain = plain })

pub returns : goal.returns
returns g c plain ok =
    let t = c.args.self.now.graph in
    let i = c.from-first.result in
    let four : i + 4 - i ≡ 4 = omega arith in
    let slots : take (i + 4 - i) (drop i t.slots) ≡ slots_of (view t).graph c.args.c = rw four (four_slots t c.args.c i (omega arith) (search rules) (search rules) c.args.self.now.small (search rules)) in
    let number = c.in_ok-write.ensures.writes plain refl in
    has_written_of_eq _ _ _ _ _ (used_row t c.args.c (search rules) (search rules) (sym c.if-not-test.ensures))
    (has_written_append _ _ _ _ _ _ number (has_written_of_eq _ _ _ _ _ (ap row slots) (c.write_row.ensures number.plain ok)))
