-- The tokens that a trial keeps, and the holds that they name.
use Rattle.std.specs.Prelude.{◌≡◌, ℕ, ◌+◌, Bool, cond, ◌&&◌, List, count_by, ◌==◌}
use Rattle.heap.specs.Calls.{open_token}
use Rattle.heap.specs.States.{State}
use Rattle.heap.specs.declared.token.Token.{Token}
use Rattle.trials.specs.declared.kept.Kept.{Kept}

-- Whether a token names the hold and the cell that another names.
abbrev pub is_like : Token → Token → Bool
is_like t u = u.hold == t.hold && u.cell == t.cell

-- How many of the kept tokens are like this one.
unfoldable pub kept_like : Token → List Kept → ℕ
kept_like t ks = count_by (λ k. is_like t k.token) ks

-- 1 where the token is open in the heap, else 0.
unfoldable pub times_open : Token → State → ℕ
times_open t s = cond (open_token s t) 1 0

-- No token is open in the heap.
abbrev pub NoneOpen : State → Type 0
NoneOpen s = (t : Token) → times_open t s ≡ 0

-- As many tokens of each kind are kept as are open in the two heaps.
abbrev pub Balanced : List Kept → State → State → Type 0
Balanced ks s s' = (t : Token) → kept_like t ks ≡ times_open t s + times_open t s'

-- What becomes open in the heap is kept from then on, and what is kept no more is open no more.
abbrev pub Moves : List Kept → State → List Kept → State → Type 0
Moves ks s ks' s' = (t : Token) → kept_like t ks' + times_open t s ≡ kept_like t ks + times_open t s'
