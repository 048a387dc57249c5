-- Laws of chains of notes that empty slots. Nothing in this file has to be believed: it is checked proof.
use Rattle.std.specs.Prelude.{ℕ, ◌<◌, List, length, slice_index, slice_set}
use Rattle.ledgers.specs.Meaning.{Ops, Emptied, none, more}

module _ {L : Type 0} {o : Ops L} where
  -- one chain after another
  pub emptied_then : {t t₁ t₂ : List ℕ} {l l₁ l₂ : L} → Emptied o t l t₁ l₁ → Emptied o t₁ l₁ t₂ l₂ → Emptied o t l t₂ l₂
  emptied_then none rest = rest
  emptied_then (more s lt note chain) rest = more s lt note (emptied_then chain rest)

  -- one note more at the end
  pub emptied_push : {t t₁ : List ℕ} {l l₁ l₂ : L} (s : ℕ) → Emptied o t l t₁ l₁ → s < length t₁ → o.Notes s (slice_index t₁ s) 0 l₁ l₂ → Emptied o t l (slice_set t₁ s 0) l₂
  emptied_push s chain lt note = emptied_then chain (more s lt note none)
