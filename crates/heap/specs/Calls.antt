-- What each call does: when it is refused and with which cause, and what it leaves.
use Rattle.std.specs.Prelude.{◌≡◌, ℕ, ◌+◌, ◌-◌, ◌*◌, ◌<◌, ◌≤◌, Bool, true, false, cond, not, ◌&&◌, ◌||◌, ◌≢◌, List, [], ◌∷◌, get_or, Some, None, Ok, Err, Option, Result, ◌==◌, nat_lt, slice_index, slice_index_or, slice_set}
use Rattle.heap.specs.Graph.{content}
use Rattle.heap.specs.Refusals.{Check, check, cause_of}
use Rattle.heap.specs.States.{State, sized}
use Rattle.refusals.specs.declared.refusal.Refusal.{Refusal}
use Rattle.refusals.specs.declared.refusal.Refusal.TheVariants.{Cells, Root, Slot, Unsized, Sized, Ledger, Full, Empty, Holds, Token as Foreign}
use Rattle.heap.specs.declared.token.Token.{Token}
use Rattle.heap.specs.declared.token.Unreleased.{Unreleased}
use Rattle.ledgers.specs.Meaning.{Ops}

abbrev pub root : State → ℕ → ℕ
root s r = slice_index s.graph.roots r

abbrev pub unsized : State → Bool
unsized s = s.graph.cells == 0

abbrev pub all : List Bool → Bool
all [] = true
all (b ∷ bs) = b && all bs

abbrev pub some_empty : List ℕ → Bool
some_empty [] = false
some_empty (x ∷ xs) = x == 0 || some_empty xs

-- A token is open in a heap whose hold of that number contains that cell.
abbrev pub open_token : State → Token → Bool
open_token s t = nat_lt 0 t.cell && slice_index s.graph.holds t.hold == t.cell

abbrev pub clear_checks : State → ℕ → List Check
clear_checks s r = check (nat_lt 15 r) Root ∷ check (unsized s) Unsized ∷ []

abbrev pub copy_checks : State → ℕ → ℕ → List Check
copy_checks s r q = check (nat_lt 15 r || nat_lt 15 q) Root ∷ check (unsized s) Unsized ∷ []

abbrev pub load_checks : State → ℕ → ℕ → ℕ → List Check
load_checks s r q f = check (nat_lt 15 r || nat_lt 15 q) Root ∷ check (nat_lt 3 f) Slot ∷ check (unsized s) Unsized ∷ check (root s q == 0) Empty ∷ []

abbrev pub store_checks : State → ℕ → ℕ → ℕ → List Check
store_checks s r f q = check (nat_lt 15 r || nat_lt 15 q) Root ∷ check (nat_lt 3 f) Slot ∷ check (unsized s) Unsized ∷ check (root s r == 0) Empty ∷ []

abbrev pub new_checks : State → ℕ → List Check
new_checks s r = check (nat_lt 15 r) Root ∷ check (unsized s) Unsized ∷ check (all s.graph.used) Full ∷ []

abbrev pub hold_checks : State → ℕ → List Check
hold_checks s r = check (nat_lt 15 r) Root ∷ check (unsized s) Unsized ∷ check (root s r == 0) Empty ∷ check (not (some_empty s.graph.holds)) Holds ∷ []

abbrev pub release_checks : State → Token → List Check
release_checks s t = check (unsized s) Unsized ∷ check (not (open_token s t)) Foreign ∷ []

abbrev pub size_checks : ℕ → State → ℕ → List Check
size_checks capacity s n = check (n == 0 || nat_lt 1024 n) Cells ∷ check (not (unsized s)) Sized ∷ check (nat_lt capacity n) Ledger ∷ []

-- A cell given up for another content becomes a suspect.
abbrev pub lost : ℕ → ℕ → List Bool → List Bool
lost old new suspects = cond (old == 0 || old == new) suspects (slice_set suspects (old - 1) true)

abbrev pub with_root : State → ℕ → ℕ → State
with_root s r c = record {
  graph = record { cells = s.graph.cells; slots = s.graph.slots; roots = slice_set s.graph.roots r c; holds = s.graph.holds; used = s.graph.used };
  suspects = lost (root s r) c s.suspects;
  last = s.last;
}

abbrev pub with_slot : State → ℕ → ℕ → State
with_slot s i c = record {
  graph = record { cells = s.graph.cells; slots = slice_set s.graph.slots i c; roots = s.graph.roots; holds = s.graph.holds; used = s.graph.used };
  suspects = lost (slice_index s.graph.slots i) c s.suspects;
  last = s.last;
}

abbrev pub with_hold : State → ℕ → ℕ → State
with_hold s k c = record {
  graph = record { cells = s.graph.cells; slots = s.graph.slots; roots = s.graph.roots; holds = slice_set s.graph.holds k c; used = s.graph.used };
  suspects = lost (slice_index s.graph.holds k) c s.suspects;
  last = s.last;
}

abbrev pub given : State → ℕ → State
given s c = record {
  graph = record { cells = s.graph.cells; slots = s.graph.slots; roots = s.graph.roots; holds = s.graph.holds; used = slice_set s.graph.used (c - 1) true };
  suspects = s.suspects;
  last = c;
}

-- How far a cell lies from the last one given out, going round from n to 1.
abbrev pub turn : State → ℕ → ℕ
turn s c = cond (nat_lt s.last c) (c - s.last) (c + s.graph.cells - s.last)

-- The first free cell after the last given.
pub record Next (s : State) (c : ℕ) : Type 0 where
  pub least : 1 ≤ c
  pub most : c ≤ s.graph.cells
  pub free : get_or s.graph.used (c - 1) false ≡ false
  pub first : (d : ℕ) → 1 ≤ d → d ≤ s.graph.cells → slice_index_or s.graph.used (d - 1) false ≡ false → turn s c ≤ turn s d

-- What a search for a free cell finds.
abbrev pub FreeCell : State → Option ℕ → Type 0
FreeCell s (Some c) = Next s c × (all s.graph.used ≡ false)
FreeCell s None = all s.graph.used ≡ true

-- The lowest empty hold.
pub record Lowest (s : State) (k : ℕ) : Type 0 where
  pub within : k < 16
  pub empty : get_or s.graph.holds k 0 ≡ 0
  pub first : (j : ℕ) → j < k → slice_index s.graph.holds j ≢ 0

-- What a search for an empty hold finds.
abbrev pub FreeHold : State → Option ℕ → Type 0
FreeHold s (Some k) = Lowest s k × (some_empty s.graph.holds ≡ true)
FreeHold s None = some_empty s.graph.holds ≡ false

abbrev pub slot_of : State → ℕ → ℕ → ℕ
slot_of s r f = 4 * (root s r - 1) + f

-- A refused call leaves the whole heap as it was, and not only what is seen of it.
abbrev pub Unmoved : {A X : Type 0} → Result A Refusal → X → X → Type 0
Unmoved (Ok _) x x' = Unit {0}
Unmoved (Err _) x x' = x' ≡ x

-- The token of an accepted hold is open: its release, right after, is accepted.
abbrev pub Opened : Result Token Refusal → State → Type 0
Opened (Ok t) s = cause_of (release_checks s t) ≡ None
Opened (Err _) s = Unit {0}

-- The cause in a refused release.
abbrev pub release_cause : Result (Unit {0}) Unreleased → Result (Unit {0}) Refusal
release_cause (Ok u) = Ok u
release_cause (Err u) = Err u.cause

-- A refused release gives the token back too.
abbrev pub Returned : {X : Type 0} → Token → Result (Unit {0}) Unreleased → X → X → Type 0
Returned t (Ok _) x x' = Unit {0}
Returned t (Err u) x x' = (u.token ≡ t) × (x' ≡ x)

module _ {L : Type 0} (o : Ops L) where
  -- A refused call names the first cause and changes nothing.
  pub record Turned (checks : List Check) (e : Refusal) (s s' : State) (l l' : L) : Type 0 where
    pub cause : cause_of checks ≡ Some e
    pub state : s' ≡ s
    pub ledger : l' ≡ l

  pub record Took (checks : List Check) (s'' s' : State) : Type 0 where
    pub cause : cause_of checks ≡ None
    pub state : s' ≡ s''

  abbrev pub Clear : ℕ → State → L → Result (Unit {0}) Refusal → State → L → Type 0
  Clear r s l (Ok _) s' l' = Took (clear_checks s r) (with_root s r 0) s' × (l' ≡ l)
  Clear r s l (Err e) s' l' = Turned (clear_checks s r) e s s' l l'

  abbrev pub Copy : ℕ → ℕ → State → L → Result (Unit {0}) Refusal → State → L → Type 0
  Copy r q s l (Ok _) s' l' = Took (copy_checks s r q) (with_root s r (root s q)) s' × (l' ≡ l)
  Copy r q s l (Err e) s' l' = Turned (copy_checks s r q) e s s' l l'

  abbrev pub Load : ℕ → ℕ → ℕ → State → L → Result (Unit {0}) Refusal → State → L → Type 0
  Load r q f s l (Ok _) s' l' = Took (load_checks s r q f) (with_root s r (content s.graph (root s q) f)) s' × (l' ≡ l)
  Load r q f s l (Err e) s' l' = Turned (load_checks s r q f) e s s' l l'

  abbrev pub Store : ℕ → ℕ → ℕ → State → L → Result (Unit {0}) Refusal → State → L → Type 0
  Store r f q s l (Ok _) s' l' =
      Took (store_checks s r f q) (with_slot s (slot_of s r f) (root s q)) s'
      × cond (slice_index s.graph.slots (slot_of s r f) == root s q) (l' ≡ l) (o.Notes (slot_of s r f) (slice_index s.graph.slots (slot_of s r f)) (root s q) l l')
  Store r f q s l (Err e) s' l' = Turned (store_checks s r f q) e s s' l l'

  abbrev pub Size : ℕ → State → L → Result (Unit {0}) Refusal → State → L → Type 0
  Size n s l (Ok _) s' l' = Took (size_checks (o.capacity l) s n) (sized n) s' × o.Clears n l l'
  Size n s l (Err e) s' l' = Turned (size_checks (o.capacity l) s n) e s s' l l'

  abbrev pub New : ℕ → State → L → Result ℕ Refusal → State → L → Type 0
  New r s l (Ok c) s' l' = Took (new_checks s r) (with_root (given s c) r c) s' × Next s c × (l' ≡ l)
  New r s l (Err e) s' l' = Turned (new_checks s r) e s s' l l'

  abbrev pub Hold : ℕ → State → L → Result Token Refusal → State → L → Type 0
  Hold r s l (Ok t) s' l' = Took (hold_checks s r) (with_hold s t.hold (root s r)) s' × Lowest s t.hold × (t.cell ≡ root s r) × (l' ≡ l)
  Hold r s l (Err e) s' l' = Turned (hold_checks s r) e s s' l l'

  abbrev pub Release : Token → State → L → Result (Unit {0}) Refusal → State → L → Type 0
  Release t s l (Ok _) s' l' = Took (release_checks s t) (with_hold s t.hold 0) s' × (l' ≡ l)
  Release t s l (Err e) s' l' = Turned (release_checks s t) e s s' l l'
