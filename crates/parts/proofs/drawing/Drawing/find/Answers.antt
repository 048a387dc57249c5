use Rattle.std.proofs.Common.{◌≡◌, ℕ, ◌<◌, List, length, None, vec_items, subst, arith, Bor, rules, tests, MatchOption}
use Rattle.std.specs.List.{AllWithin, HoldsAt}
use Rattle.std.proofs.lemmas.Iterator.{YieldsList-from_slice, IsFirst-from_position}
use Rattle.std.proofs.lemmas.Option.{MatchOption-at_some, MatchOption-at_none}
use Rattle.parts.specs.Text.{Bytes}
use Rattle.parts.proofs.Growing.{called_place, no_place}
use Rattle.parts.proofs.drawing.Drawing.find.Goals as goal
use Rattle.parts.proofs.drawing.Drawing.find.Goals.{After-position}

abbrev Absent : Bytes → List (Bor Bytes) → Type 0
Absent w names = AllWithin (λ v. v.now ≡ w → ⊥) names 0 (length names)

abbrev First : Bytes → List (Bor Bytes) → ℕ → Type 0
First w names i = (i < length names) × HoldsAt (λ v. v.now ≡ w) names i × AllWithin (λ v. v.now ≡ w → ⊥) names 0 i

placed : (c : After-position) → MatchOption c.position.result (Absent c.args.name.now (vec_items c.args.self.now.names)) (First c.args.name.now (vec_items c.args.self.now.names))
placed c =
    subst (λ (l : List (Bor Bytes)). MatchOption c.position.result (Absent c.args.name.now l) (First c.args.name.now l)) c.deref.ensures.value
    (IsFirst-from_position _ _ c.position.result (λ w. w.now ≡ c.args.name.now) (λ w. w.now ≡ c.args.name.now → ⊥) c.position.ensures.ran (YieldsList-from_slice c.deref.result.now cc) (λ x q k. search (rules, tests)) (λ x q k. search (rules, tests)))

pub returns-in_err-place : goal.returns-in_err-place
returns-in_err-place c =
    let none : c.position.result ≡ None = grind arith in
    rw c.from_residual.ensures (no_place _ _ (MatchOption-at_none (Absent c.args.name.now (vec_items c.args.self.now.names)) _ none (placed (goal.at.returns-in_err-place c).After-position)))

pub returns : goal.returns
returns c =
    let at = MatchOption-at_some _ (First c.args.name.now (vec_items c.args.self.now.names)) _ c.in_ok-place.was (placed (goal.at.returns c).After-position) in
    called_place _ _ _ at.0 at.1
