-- What follows from the relation of a release, for whoever knows how it ends. Nothing in this file has to be believed: it is checked proof.
use Rattle.std.proofs.Common.{◌≡◌, None, Result, Ok, Err, refl, sym, ◌∙◌}
use Rattle.std.specs.Result.{IsOk}
use Rattle.heap.specs.Calls.{Release, release_cause, release_checks, with_hold}
use Rattle.heap.specs.Refusals.{cause_of}
use Rattle.heap.specs.States.{State}
use Rattle.heap.specs.declared.token.Token.{Token}
use Rattle.heap.specs.declared.token.Unreleased.{Unreleased}
use Rattle.ledgers.specs.Meaning.{Ops}

module _ {L : Type 0} (o : Ops L) (t : Token) (s s' : State) (l : L) where
  -- one that is accepted empties the hold
  pub released : (r : Result (Unit {0}) Unreleased) {u : Unit {0}} → r ≡ Ok u → Release o t s l (release_cause r) s' l → s' ≡ with_hold s t.hold 0
  released (Ok _) e did = did.0.state
  released (Err _) e did = absurd cc

  -- one that no cause forbids is accepted
  pub accepted : (r : Result (Unit {0}) Unreleased) → cause_of (release_checks s t) ≡ None → Release o t s l (release_cause r) s' l → IsOk r
  accepted (Ok _) e did = refl
  accepted (Err _) e did = let refused = sym did.cause ∙ e in absurd cc
