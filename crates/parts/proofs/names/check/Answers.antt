use Rattle.std.proofs.Common.{◌≡◌, length, ltb, sym, refl, ◌∙◌, rules, tests, false}
use lib.ListN.{length-map}
use Rattle.std.proofs.lemmas.Bool.{le-ltb}
use Rattle.std.proofs.lemmas.Iterator.{YieldsList-from_slice}
use Rattle.std.proofs.lemmas.Iterator.Search.{any_from_yields_List}
use Rattle.std.specs.List.{list_any}
use Rattle.parts.specs.Building.{bytes}
use Rattle.parts.specs.Faults.{long, unprintable}
use Rattle.parts.proofs.Anys.{any_map}
use Rattle.parts.proofs.names.check.Goals as goal
use Rattle.parts.proofs.names.check.Goals.{After-any, After-any-2}

few : (c : After-any) → ltb 5 (length (bytes c.args.words.now)) ≡ false
few c = rw length-map (le-ltb 5 _ c.if-words-gt-MOST_WORDS.false)

any_long : (c : After-any) → list_any long (bytes c.args.words.now) ≡ c.any.result
any_long c = any_map (λ w. w.now) long c.args.words.now ∙ sym (any_from_yields_List (λ w. long w.now) _ _ c.any.result c.any.ensures.ran (YieldsList-from_slice c.args.words.now cc) (λ x b q k. search (rules, tests)))

any_unprintable : (c : After-any-2) → list_any unprintable (bytes c.args.words.now) ≡ c.any-2.result
any_unprintable c = any_map (λ w. w.now) unprintable c.args.words.now ∙ sym (any_from_yields_List (λ w. unprintable w.now) _ _ c.any-2.result c.any-2.ensures.ran (YieldsList-from_slice c.args.words.now cc) (λ x b q k. search (rules, tests)))

pub returns-then-any : goal.returns-then-any
returns-then-any c = let a = (goal.at.returns-then-any c).After-any in rw (few a, any_long a, c.if-any.true) refl

pub returns-then-any-2 : goal.returns-then-any-2
returns-then-any-2 c =
    let at = goal.at.returns-then-any-2 c in
    rw (few at.After-any, any_long at.After-any, c.if-any.false, any_unprintable at.After-any-2, c.if-any-2.true) refl

pub returns : goal.returns
returns c =
    let at = goal.at.returns c in
    rw (few at.After-any, any_long at.After-any, c.if-any.false, any_unprintable at.After-any-2, c.if-any-2.false) refl
