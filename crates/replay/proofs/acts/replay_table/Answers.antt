use Rattle.replay.proofs.Following.{kept, settled}
use Rattle.replay.specs.Replays.{Replays, edited}
use Rattle.replay.specs.declared.replay.Replayed.{Replayed}
use Rattle.replay.proofs.acts.replay_table.Goals as goal

pub numbers-requires-clause-follows : goal.numbers-requires-clause-follows
numbers-requires-clause-follows g c = (_, (settled g.L.Ledger.laws c.settle.ensures c.in_ok-n.ensures.1).0)

pub zeros-requires : goal.zeros-requires
zeros-requires g c =
    let s = settled g.L.Ledger.laws c.settle.ensures c.in_ok-n.ensures.1 in
    record { follows = (_, s.0); settled = s.1 }

pub returns : goal.returns
returns g c =
    let f = c.in_ok-n.ensures in
    let s = settled g.L.Ledger.laws c.settle.ensures f.1 in
    let answers : Replayed = record { waiting = c.waiting-waiting.result; numbers = c.in_ok-numbers.numbers; zeros = c.in_ok-zeros.zeros } in
    let replays : Replays g.L.Ledger.ops c.in_ok-n.n (edited c.args.slots.now c.args.edits.now) c.settle.new.self answers = record {
      follows = s.0;
      settled = s.1;
      waited = (_, c.settle.ensures, c.waiting-waiting.ensures);
      numbers = c.in_ok-numbers.ensures;
      zeros = c.in_ok-zeros.ensures;
    } in
    record { ledger = (c.in_ok-n.n, f.0, replays); kept = kept g.L.Ledger.laws f.0 replays }
