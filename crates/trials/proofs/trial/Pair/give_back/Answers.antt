use Rattle.std.proofs.Common.{sym, ◌∙◌, arith}
use Rattle.heap.specs.ReleaseLaws.{accepted, released}
use Rattle.heap.specs.States.{state}
use Rattle.trials.proofs.Tokens.{kept_none, kept_popped, may_release, open_in_other, release_shuts}
use Rattle.trials.proofs.trial.Pair.give_back.Goals as goal

pub loop-token-preserved-then-is_open : goal.loop-token-preserved-then-is_open
loop-token-preserved-then-is_open g c t =
    let at = c.loop-token in
    let k = c.in-Some.field-0 in
    let popped = kept_popped t at.tokens.items c.pop.new.self.items k c.in-Some.ensures.items in
    let is_open = sym c.is_open.ensures ∙ c.if-is_open.true in
    let closed = released g.L.Ledger.ops k.token (state at.self.left.heap) (state c.release.new.self) at.self.left.ledger c.release.result c.unwrap.ensures c.release.ensures.does in
    let shuts = release_shuts t k.token (state at.self.left.heap) (state c.release.new.self) closed is_open in
    let before = at.invariant t in
    omega (arith, before, popped, shuts)

pub unwrap-requires-else-is_open : goal.unwrap-requires-else-is_open
unwrap-requires-else-is_open g c =
    let at = c.loop-token in
    let k = c.in-Some.field-0 in
    let is_shut = sym c.is_open.ensures ∙ c.if-is_open.false in
    let is_open = open_in_other at.tokens.items c.pop.new.self.items k (state at.self.left.heap) (state at.self.right.heap) at.invariant c.in-Some.ensures.items is_shut in
    accepted g.L.Ledger.ops k.token (state at.self.right.heap) (state c.release-else-is_open.new.self) at.self.right.ledger c.release-else-is_open.result
    (may_release at.self.right.heap k.token is_open) c.release-else-is_open.ensures.does

pub loop-token-preserved : goal.loop-token-preserved
loop-token-preserved g c t =
    let at = c.loop-token in
    let k = c.in-Some.field-0 in
    let popped = kept_popped t at.tokens.items c.pop.new.self.items k c.in-Some.ensures.items in
    let is_shut = sym c.is_open.ensures ∙ c.if-is_open.false in
    let is_open = open_in_other at.tokens.items c.pop.new.self.items k (state at.self.left.heap) (state at.self.right.heap) at.invariant c.in-Some.ensures.items is_shut in
    let closed = released g.L.Ledger.ops k.token (state at.self.right.heap) (state c.release-else-is_open.new.self) at.self.right.ledger c.release-else-is_open.result c.unwrap-else-is_open.ensures c.release-else-is_open.ensures.does in
    let shuts = release_shuts t k.token (state at.self.right.heap) (state c.release-else-is_open.new.self) closed is_open in
    let before = at.invariant t in
    omega (arith, before, popped, shuts)

pub returns-clause-left : goal.returns-clause-left
returns-clause-left g c t =
    let none = kept_none t c.loop-token.tokens.items (omega (arith, c.in_default.ensures.cases.0)) in
    let before = c.loop-token.invariant t in
    omega (arith, before, none)

pub returns-clause-right : goal.returns-clause-right
returns-clause-right g c t =
    let none = kept_none t c.loop-token.tokens.items (omega (arith, c.in_default.ensures.cases.0)) in
    let before = c.loop-token.invariant t in
    omega (arith, before, none)
