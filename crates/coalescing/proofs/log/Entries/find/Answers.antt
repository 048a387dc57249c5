use Rattle.std.proofs.Common.{arith}
use Rattle.coalescing.proofs.Sparse.{search_fails}
use Rattle.coalescing.proofs.log.Entries.find.Goals as goal
use Rattle.coalescing.proofs.log.Entries.find.Goals.{else-i-size-via-then-i-size+else-self-i, else-i-size-via-else-i-size}

pub returns-else-i-size : goal.returns-else-i-size
returns-else-i-size c =
    search_fails c.args.self.now c.args.slot
    (λ lt is. elim c.else-i-size.branch [
      | else-i-size-via-then-i-size+else-self-i w ↦ w.if-self-i.false is
      | else-i-size-via-else-i-size w ↦ omega (arith, w.if-i-size.false)
    ])
