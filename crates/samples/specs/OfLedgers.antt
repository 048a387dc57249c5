-- Samples of ledgers: a coalescing log over the bottom ledger of sticky counts, with two cells.
use Rattle.std.specs.Prelude.{◌≡◌, ℕ, [], ◌∷◌}
use Rattle.coalescing.specs.Logs.{LogNotes, LogSettles, WellFormed, entries, entry_of}
use Rattle.coalescing.specs.declared.log.Log.{Log}
use Rattle.ledgers.specs.Bottoms.{Counts, bottom_ops}
use Rattle.ledgers.specs.Meaning.{Ops}

-- The bottom ledger as its views alone: its n, and what its counts tell.
abbrev pub StickyLedger : Type 0
StickyLedger = ℕ × Counts

abbrev pub sticky_ops : Ops StickyLedger
sticky_ops = bottom_ops 2 (λ l. l.0) (λ l. l.1)

-- A log of two cells with no entries, over any counts.
pub record EmptyLog (g : Log StickyLedger) : Type 0 where
  pub cells : g.below.0 ≡ 2
  pub formed : WellFormed g.inner
  pub none : g.inner.len ≡ 0

-- The second write to a slot keeps the log's first content: from 0 to 1 and on to 2 is one entry from 0 to 2.
abbrev pub FirstContentKept : Type 0
FirstContentKept =
    (g g₁ g₂ : Log StickyLedger) → EmptyLog g → LogNotes sticky_ops 0 0 1 g g₁ → LogNotes sticky_ops 0 1 2 g₁ g₂ → entries g₂.inner ≡ entry_of 0 0 2 ∷ []

-- A slot moved from 1 to 2 and put back leaves the counts as they were, whatever they tell.
abbrev pub CountsLeftAlone : Type 0
CountsLeftAlone =
    (g g₁ g₂ g₃ : Log StickyLedger) → EmptyLog g → LogNotes sticky_ops 0 1 2 g g₁ → LogNotes sticky_ops 0 2 1 g₁ g₂ → LogSettles sticky_ops g₂ g₃ → g₃.below ≡ g.below
