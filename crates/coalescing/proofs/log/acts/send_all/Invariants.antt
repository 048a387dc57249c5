use Rattle.std.proofs.Common.{take}
use Rattle.coalescing.specs.Logs.{Passed}
use Rattle.coalescing.proofs.log.acts.send_all.Given as goal

abbrev pub invariant-loop-entry : goal.invariant-loop-entry
invariant-loop-entry g l = Passed g.L.Ledger.ops (take l.entry-index l.entries) l.initial.below l.below
