-- Looking for a line: what holds after each line, and at the end.
use Rattle.std.proofs.Common.{◌≡◌, ℕ, ◌+◌, ◌-◌, ◌≤◌, true, false, ◌⊎◌, [], length, get_or, take, ap, ◌∙◌, ⊎_elim, arith}
use Rattle.std.proofs.lemmas.List.{take_all}
use Rattle.std.proofs.lemmas.List.Sums.{count_by_more_yes, count_by_more_no}
use Rattle.parts.proofs.Turns.{IsLine}
use Rattle.parts.specs.Finds.{is_sought, sought_in, Found}
use Rattle.parts.specs.Text.{Bytes, lines, words}
use Rattle.parts.specs.declared.lookup.LineKind.{LineKind}

-- Of the first j lines as many were of the kind as are not left to be passed over.
abbrev pub Sofar : LineKind → Bytes → Bytes → ℕ → ℕ → ℕ → Type 0
Sofar kind name text j skip to_pass = sought_in kind name (take j (lines text)) + to_pass ≡ skip

-- How many are left to be passed over after a line, and how many were before it.
abbrev pub Passed : LineKind → Bytes → Bytes → ℕ → ℕ → Type 0
Passed kind name line before after =
    ((is_sought kind name (words line) ≡ true) × (1 ≤ before) × (after ≡ before - 1)) ⊎ ((is_sought kind name (words line) ≡ false) × (after ≡ before))

-- The line that is next, of which it is known whether it is of the kind.
module _ (kind : LineKind) (name : Bytes) (text line : Bytes) (j skip to_pass : ℕ) (sofar : Sofar kind name text j skip to_pass) (at : IsLine (lines text) j line) where
  pub stopped : is_sought kind name (words line) ≡ true → to_pass ≡ 0 → Found kind name (lines text) skip (j + 1)
  stopped hit none =
      let back : j + 1 - 1 ≡ j = omega arith in
      record {
        some = omega arith;
        within = omega (arith, at.within);
        here = ap (λ (k : ℕ). is_sought kind name (words (get_or (lines text) k []))) back ∙ ap (λ (l : Bytes). is_sought kind name (words l)) (at.here []) ∙ hit;
        before = ap (λ (k : ℕ). sought_in kind name (take k (lines text))) back ∙ omega (arith, sofar);
      }

  pub one_more : (k : ℕ) → Passed kind name line to_pass k → Sofar kind name text (j + 1) skip k
  one_more k gone =
      let same = ap (λ (l : Bytes). is_sought kind name (words l)) (at.here []) in
      ⊎_elim
      (λ h. omega (arith, sofar, h.1, h.2, count_by_more_yes (λ l. is_sought kind name (words l)) (lines text) j [] at.within (same ∙ h.0)))
      (λ h. omega (arith, sofar, h.1, count_by_more_no (λ l. is_sought kind name (words l)) (lines text) j [] at.within (same ∙ h.0)))
      gone

pub all_done : (kind : LineKind) (name : Bytes) (text : Bytes) (j skip to_pass : ℕ) → j ≡ length (lines text) → Sofar kind name text j skip to_pass → sought_in kind name (lines text) ≤ skip
all_done kind name text j skip to_pass end sofar = omega (arith, sofar, ap (sought_in kind name) (take_all j (lines text) (omega arith)))
