use Rattle.std.proofs.Common.{◌≡◌, ℕ, ◌<◌, ◌≤◌, List, [], length, Some, None, Option, sym, subst, arith, MatchOption}
use Rattle.std.proofs.lemmas.List.{get_or-map}
use Rattle.std.specs.List.{ContainsAt as Has}
use Rattle.parts.specs.Building.{known}
use Rattle.parts.specs.Drawn.{Called}
use Rattle.parts.specs.Text.{Bytes}
use Rattle.parts.proofs.edits.new_content.Goals as goal

module _ (names : List Bytes) (w v : Bytes) (n : ℕ) (same : v ≡ w) (third : 2 < n) where
  by-third : (o : Option ℕ) → MatchOption o (Has names w → ⊥) (λ c. Called names c w) → MatchOption o ((2 < n) × (Has names v → ⊥)) (λ c. (2 < n → Called names c v) × (n ≤ 2 → c ≡ 0))
  by-third None none = (third, λ h. none (subst (Has names) same h))
  by-third (Some c) called = (λ _. subst (Called names c) (sym same) called, λ short. absurd (omega arith))

pub returns-in-len3-up : goal.returns-in-len3-up
returns-in-len3-up c =
    let words = c.args.words.now in
    let third : 2 < length words = omega arith in
    by-third (known c.args.drawing.now) _ _ (length words) (get_or-map (λ w. w.now) words 2 _ [] third) third c.find.result c.find.ensures
