-- Counts in a memory of rows.
use Rattle.std.specs.Prelude.{◌≡◌, ℕ, suc, ◌<◌, ◌≤◌, ◌≢◌, ◌⊎◌, Some, None, Option, slice_index_or}
use Rattle.ledgers.specs.Bottoms.{Counts}
use Rattle.ledgers.specs.Tables.{Cell}

-- Cell c lies at c - 1, if the memory is that long. 0 is no cell.
abbrev pub Placed : ℕ → ℕ → Option ℕ → Type 0
Placed c len (Some i) = (c ≡ suc i) × (i < len)
Placed c len None = (c ≡ 0) ⊎ (len < c)

-- From c on, the first of n cells of which 0 is told, if there is one.
abbrev pub FirstZero : Counts → ℕ → ℕ → Option ℕ → Type 0
FirstZero counts c n (Some d) =
    Cell n d × (c ≤ d) × (slice_index_or counts d None ≡ Some 0) × ((e : ℕ) → Cell n e → c ≤ e → e < d → slice_index_or counts e None ≢ Some 0)
FirstZero counts c n None = (e : ℕ) → Cell n e → c ≤ e → slice_index_or counts e None ≢ Some 0
