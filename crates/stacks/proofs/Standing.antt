-- Every stack over a lawful ledger stands, by induction over its layers. Assumes nothing.
use mathlib.Core.List.{[], ◌∷◌}
use mathlib.Core.Path.{◌≡◌, refl, ◌∙◌}
use Rattle.coalescing.specs.LogLaws.{log_lawful}
use Rattle.ledgers.specs.Meaning.{Ops, Lawful}
use Rattle.queue.specs.QueueLaws.{queue_lawful}
use Rattle.stacks.specs.Stacks.{Layer, queue, log, zeros, over_ops, Stack, stack_ops, EveryStackStands}
use Rattle.zeros.specs.ZeroLaws.{zeros_lawful}

over_lawful : (k : Layer) (L : Type 0) (o : Ops L) → Lawful o → Lawful (over_ops k L o)
over_lawful queue L o p = queue_lawful p
over_lawful log L o p = log_lawful p
over_lawful zeros L o p = zeros_lawful p

over_ceiling : (k : Layer) (L : Type 0) (o : Ops L) → (over_ops k L o).ceiling ≡ o.ceiling
over_ceiling queue L o = refl
over_ceiling log L o = refl
over_ceiling zeros L o = refl

pub every_stack_stands : {L : Type 0} (o : Ops L) → Lawful o → EveryStackStands o
every_stack_stands o p [] = record { lawful = p; ceiling = refl }
every_stack_stands {L} o p (k ∷ ks) =
    let below = every_stack_stands o p ks in
    record {
      lawful = over_lawful k (Stack ks L) (stack_ops ks L o) below.lawful;
      ceiling = over_ceiling k (Stack ks L) (stack_ops ks L o) ∙ below.ceiling;
    }
