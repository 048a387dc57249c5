use Rattle.std.proofs.Common.{◌≡◌, ap, ◌∙◌, arith}
use Rattle.heap.specs.States.{state}
use Rattle.trials.proofs.Tokens.{clear_same, copy_same, load_same, new_same, size_same, store_same}
use Rattle.trials.specs.Tokens.{times_open}
use Rattle.trials.specs.declared.trial.Side.{Side}
use Rattle.trials.proofs.trial.Side.ask.Goals as goal
use Rattle.trials.proofs.trial.Side.ask.Goals.{in-Size, in-Clear, in-Copy, in-Load, in-Store}

pub returns-in-New : goal.returns-in-New
returns-in-New g c t =
    let side = c.args.self.now in
    let same = new_same g.L.Ledger.ops c.in-New.r (state side.heap) side.ledger side.ledger c.new_cell.result (state c.new_cell.new.self) c.new_cell.ensures.does t in
    omega (arith, same)

pub returns : goal.returns
returns g c t =
    let o = g.L.Ledger.ops in
    let side = c.args.self.now in
    let before = state side.heap in
    let open_after = λ (s : Side g.row.L.Denot). times_open t (state s.heap) in
    let same : times_open t (state c.match-call.self.heap) ≡ times_open t before =
    elim c.match-call.branch [
      | in-Size w ↦ ap open_after w.self-is ∙ size_same o w.in-Size.n side.heap side.ledger w.size-done.new.ledger w.size-done.result (state w.size-done.new.self) w.size-done.ensures.does t
      | in-Clear w ↦ ap open_after w.self-is ∙ clear_same o w.in-Clear.r before side.ledger side.ledger w.clear-done.result (state w.clear-done.new.self) w.clear-done.ensures.does t
      | in-Copy w ↦ ap open_after w.self-is ∙ copy_same o w.in-Copy.r w.in-Copy.s before side.ledger side.ledger w.copy-done.result (state w.copy-done.new.self) w.copy-done.ensures.does t
      | in-Load w ↦ ap open_after w.self-is ∙ load_same o w.in-Load.r w.in-Load.s w.in-Load.f before side.ledger side.ledger w.load-done.result (state w.load-done.new.self) w.load-done.ensures.does t
      | in-Store w ↦ ap open_after w.self-is ∙ store_same o w.in-Store.r w.in-Store.f w.in-Store.s before side.ledger w.store-done.new.ledger w.store-done.result (state w.store-done.new.self) w.store-done.ensures.does t
    ]
    in
    omega (arith, same)
