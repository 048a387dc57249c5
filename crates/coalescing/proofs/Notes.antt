-- A note that the log takes.
use Rattle.std.proofs.Common.{◌≡◌, ℕ, sym, refl, ap, ◌∙◌, subst}
use Rattle.coalescing.proofs.Sparse.{renewed_entries, renewed_formed}
use Rattle.coalescing.specs.Logs.{entries, WellFormed, Logged, renewed, Takes, again, LogNotes}
use Rattle.coalescing.specs.declared.log.Entries.{Entries}
use Rattle.coalescing.specs.declared.log.Log.{Log}
use Rattle.ledgers.specs.Meaning.{Ops}

module _ {L : Type 0} (o : Ops L) (s old new : ℕ) (g : Log L) (takes : Takes (o.cells g.below) s old new) where
  pub notes_again : (k : ℕ) (e : Entries) → Logged k s (entries g.inner) → e ≡ renewed k new g.inner → LogNotes o s old new g (record { below = g.below; inner = e })
  notes_again k e at is = record {
    taken = λ _ formed. (again k at (ap entries is ∙ renewed_entries g.inner k new at.0) refl, subst WellFormed (sym is) (renewed_formed g.inner k new at.0 formed));
    outside = λ out. absurd (out takes);
  }
