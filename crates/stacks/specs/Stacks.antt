-- Stacks of layers over a ledger, in any order and number.
use Rattle.std.specs.Prelude.{List, [], ◌∷◌, ◌≡◌}
use Rattle.coalescing.specs.Logs.{log_ops}
use Rattle.coalescing.specs.declared.log.Log.{Log}
use Rattle.ledgers.specs.Meaning.{Ops, Lawful}
use Rattle.queue.specs.Queues.{queue_ops}
use Rattle.queue.specs.declared.queue.Queue.{Queue}
use Rattle.zeros.specs.ZeroTables.{zeros_ops}
use Rattle.zeros.specs.declared.zeros.Zeros.{Zeros}

-- The kinds of layer.
pub data Layer : Type 0 where
  queue : Layer
  log : Layer
  zeros : Layer

-- A layer over a ledger, and what it means.
abbrev pub Over : Layer → Type 0 → Type 0
Over queue L = Queue L
Over log L = Log L
Over zeros L = Zeros L

abbrev pub over_ops : (k : Layer) (L : Type 0) → Ops L → Ops (Over k L)
over_ops queue L o = queue_ops o
over_ops log L o = log_ops o
over_ops zeros L o = zeros_ops o

-- A stack: the first layer is the top one.
abbrev pub Stack : List Layer → Type 0 → Type 0
Stack [] L = L
Stack (k ∷ ks) L = Over k (Stack ks L)

abbrev pub stack_ops : (ks : List Layer) (L : Type 0) → Ops L → Ops (Stack ks L)
stack_ops [] L o = o
stack_ops (k ∷ ks) L o = over_ops k (Stack ks L) (stack_ops ks L o)

-- A stack over a ledger has a ledger's meaning, with that ledger's ceiling.
pub record Stands {L : Type 0} (o : Ops L) (ks : List Layer) : Type 0 where
  pub lawful : Lawful (stack_ops ks L o)
  pub ceiling : (stack_ops ks L o).ceiling ≡ o.ceiling

-- Every stack of the three layers, in any order and number, does.
abbrev pub EveryStackStands : {L : Type 0} → Ops L → Type 0
EveryStackStands o = (ks : List Layer) → Stands o ks
