use Rattle.std.proofs.Common.{arith}
use Rattle.heap.specs.States.{state}
use Rattle.trials.proofs.Tokens.{hold_opens, kept_popped, open_from}
use Rattle.trials.proofs.trial.Side.hold.Goals as goal

pub returns-in-Ok : goal.returns-in-Ok
returns-in-Ok g c t =
    let u = c.in-Ok.token in
    let opens = hold_opens t u (state c.args.self.now.heap) (state c.hold.new.self) _ c.in-Ok.ensures.does.0.state c.in-Ok.ensures.does.1 (open_from (state c.hold.new.self) u c.in-Ok.ensures.opened) in
    let kept = kept_popped t c.push_reserved.new.self.items c.args.tokens.now.items _ c.push_reserved.ensures.items in
    omega (arith, opens, kept)
