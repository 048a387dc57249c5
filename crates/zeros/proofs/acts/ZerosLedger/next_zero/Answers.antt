use Rattle.std.proofs.Common.{ℕ, Option, sym, subst, arith}
use Rattle.ledgers.specs.Answers.{NextZero}
use Rattle.std.proofs.lemmas.Bool.{both_ways}
use Rattle.zeros.specs.ZeroTables.{zeros_ops}
use Rattle.zeros.proofs.acts.ZerosLedger.next_zero.Goals as goal

pub returns-in_err-d : goal.returns-in_err-d
returns-in_err-d g c t ag =
    let z = c.args.self.now in
    let laws = g.L.Ledger.laws in
    let few = laws.cells_bound z.below t ag.agrees in
    let room = laws.capacity_bound z.below in
    subst (λ (r : Option ℕ). NextZero (zeros_ops g.L.Ledger.ops) z c.args.c r) (sym c.from_residual.ensures)
    (λ settled e cell from told.
    both_ways _ (c.in_err-d.ensures e (cell.0, omega (arith, cell.1, few, room)) from) ((ag.right settled e cell).1 told))
