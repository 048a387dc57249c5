use Rattle.std.proofs.Common.{◌+◌, is_ok, vec_items, sym, ap, subst, arith}
use Rattle.replay.proofs.Following.{ListedBelow, listed_more, listed_all}
use Rattle.std.proofs.ResultArms.{chosen}
use Rattle.replay.proofs.acts.zeros.Goals as goal

pub loop-c-preserved : goal.loop-c-preserved
loop-c-preserved g c =
    let f = c.requires.follows.1 in
    let next = c.in-Some.ensures c.requires.follows.0 f.agrees in
    let pushed = chosen _ _ _ _ c.push.ensures.items (ap is_ok c.in_ok-push.was) in (
      omega arith,
      omega (arith, next.cell.1, f.cells),
      subst (ListedBelow g.L.Ledger.ops c.args.n c.args.ledger.now (c.in-Some.c + 1)) (sym pushed)
          (listed_more g.L.Ledger.ops c.args.n c.loop-c.from c.args.ledger.now (vec_items c.loop-c.zeros) f.cells c.loop-c.invariant.2 c.in-Some.c next),
    )

pub returns : goal.returns
returns g c =
    let f = c.requires.follows.1 in
    listed_all g.L.Ledger.ops c.args.n c.loop-c.from c.args.ledger.now (vec_items c.loop-c.zeros) f.cells c.loop-c.invariant.2 (c.in_default.ensures c.requires.follows.0 f.agrees c.requires.settled)
