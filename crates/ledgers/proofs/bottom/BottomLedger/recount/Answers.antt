use Rattle.std.proofs.Common.{◌≡◌, refl, arith}
use Rattle.counts.specs.Counting.{set_to}
use Rattle.ledgers.proofs.bottom.BottomLedger.recount.Goals as goal

pub returns-then-c-self : goal.returns-then-c-self
returns-then-c-self g c =
    let counts = c.change.ensures (λ _. set_to g.K.Count.ceiling c.args.m) (λ (e : c.args.c ≡ 0). absurd (omega arith)) (λ k k' step. step) in
    record {
      sets = λ _. record { cells = refl; counts_are = counts };
      outside = λ out. absurd (out (c.if-c-ge1.true, omega arith));
    }
