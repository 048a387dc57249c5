-- What a heap's tables contain, whatever ledger it is used with.
use Rattle.std.specs.Prelude.{ℕ, ◌≤◌, List, slice_index}

-- No content is above n.
abbrev pub Within : ℕ → List ℕ → Type 0
Within n contents = (i : ℕ) → slice_index contents i ≤ n
