use Rattle.std.proofs.Common.{ℕ, ◌<◌, cond, length, ap, arith}
use Rattle.heap.specs.States.{state}
use Rattle.heap.specs.declared.token.Token.{Token}
use Rattle.trials.proofs.Tokens.{kept_popped, kept_taken, open_from, release_shuts}
use Rattle.trials.specs.Tokens.{is_like, kept_like, times_open}
use Rattle.trials.proofs.trial.Side.release.Goals as goal

pub returns-in-Ok : goal.returns-in-Ok
returns-in-Ok g c t =
    let k = c.swap_remove-hold.result in
    let ks = c.args.tokens.now.items in
    let i = c.args.place in
    let within : i < length ks = omega arith in
    let s = state c.args.self.now.heap in
    let taken = ap (kept_like t) c.swap_remove-hold.ensures.items in
    let all = kept_taken t ks i k within c.swap_remove-hold.ensures.value in
    let shuts = release_shuts t k.token s (state c.release.new.self) c.in-Ok.ensures.does.0.state (open_from s k.token c.in-Ok.ensures.does.0.cause) in
    omega (arith, taken, all, shuts)

pub returns-in-Err : goal.returns-in-Err
returns-in-Err g c t =
    let k = c.swap_remove-hold.result in
    let ks = c.args.tokens.now.items in
    let i = c.args.place in
    let within : i < length ks = omega arith in
    let taken = ap (kept_like t) c.swap_remove-hold.ensures.items in
    let all = kept_taken t ks i k within c.swap_remove-hold.ensures.value in
    let back = kept_popped t c.push_reserved.new.self.items c.swap_remove-hold.new.self.items _ c.push_reserved.ensures.items in
    let same = ap {B = ℕ} (λ (u : Token). cond (is_like t u) 1 0) c.in-Err.ensures.kept.0 in
    let unmoved = ap (times_open t) c.in-Err.ensures.does.state in
    omega (arith, taken, all, back, same, unmoved)
