-- What is wrong with a text that draws nothing, and where.
use Rattle.std.specs.Prelude.{◌≡◌, ℕ, ◌-◌, ◌<◌, ◌≤◌, Bool, cond, not, ◌&&◌, List, [], ◌∷◌, ◌++◌, length, take, Some, None, Option, nat_lt, slice_index_or}
use Rattle.std.specs.List.{list_any}
use Rattle.std.specs.Str.{bytes_eq}
use Rattle.parts.specs.Drawn.{passed, descriptions, subject, mentions, firsts}
use Rattle.parts.specs.Text.{Bytes, words}
use Rattle.parts.specs.declared.fault.Fault.{Fault}
use Rattle.parts.specs.declared.fault.Fault.TheVariants.{TooManyReferences, NameTooLong, NameNotPrintable, DescribedTwice, TooManyParts}

-- A name has at most 32 bytes.
abbrev pub long : Bytes → Bool
long w = nat_lt 32 (length w)

-- Each byte of a name is printable ASCII: '!' to '~'.
abbrev pub printable : ℕ → Bool
printable b = nat_lt 32 b && nat_lt b 127

abbrev pub unprintable : Bytes → Bool
unprintable w = list_any (λ b. not (printable b)) w

-- A test, and the fault of what fails it.
pub record Check : Type 0 where
  pub fails : Bool
  pub fault : Fault

abbrev pub check : Bool → Fault → Check
check b e = record { fails = b; fault = e }

-- The first test that fails names the fault.
abbrev pub first_fault : List Check → Option Fault
first_fault [] = None
first_fault (c ∷ cs) = cond c.fails (Some c.fault) (first_fault cs)

-- What is wrong with a description that comes after others.
abbrev pub fault_of : List (List Bytes) → List Bytes → Option Fault
fault_of before ws = first_fault (
    check (nat_lt 5 (length ws)) TooManyReferences
    ∷ check (list_any long ws) NameTooLong
    ∷ check (list_any unprintable ws) NameNotPrintable
    ∷ check (list_any (λ d. bytes_eq (subject d) (subject ws)) before) DescribedTwice
    ∷ check (nat_lt 1024 (length (firsts (mentions (before ++ ws ∷ []))))) TooManyParts
    ∷ [])

-- What is wrong with line j of a text, from 0, after the lines above it: only a description can have such a fault.
abbrev pub fault_at : List Bytes → ℕ → Option Fault
fault_at ls j = cond (passed (words (slice_index_or ls j []))) None (fault_of (descriptions (take j ls)) (words (slice_index_or ls j [])))

-- The first j lines have no fault.
abbrev pub Sound : List Bytes → ℕ → Type 0
Sound ls j = (i : ℕ) → i < j → fault_at ls i ≡ None

-- Line n, counted from 1, is the first with a fault.
pub record Faulty (ls : List Bytes) (n : ℕ) (e : Fault) : Type 0 where
  pub some : 1 ≤ n
  pub within : n ≤ length ls
  pub fault : fault_at ls (n - 1) ≡ Some e
  pub before : Sound ls (n - 1)
