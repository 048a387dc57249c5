use Rattle.std.proofs.Common.{◌≡◌, ◌-◌, ◌<◌, true, false, length, None, take, drop, arith, rules, tests, MatchOption}
use Rattle.std.specs.List.{AllWithin, HoldsAt}
use Rattle.std.proofs.lemmas.List.{take_rest}
use Rattle.std.proofs.lemmas.Iterator.{YieldsList-from_slice, IsFirst-from_position}
use Rattle.std.proofs.lemmas.Option.{MatchOption-at_some, MatchOption-at_none}
use Rattle.parts.specs.Text.{blank}
use Rattle.parts.proofs.Words.{no_words, word_from}
use Rattle.parts.proofs.text.next_word.Goals as goal
use Rattle.parts.proofs.text.next_word.Goals.{After-position}

-- Where the first byte stands that is not blank.
begins : (c : After-position) → MatchOption c.position.result (AllWithin (λ b. blank b ≡ true) c.args.text.now 0 (length c.args.text.now)) (λ i. (i < length c.args.text.now) × HoldsAt (λ b. blank b ≡ false) c.args.text.now i × AllWithin (λ b. blank b ≡ true) c.args.text.now 0 i)
begins c = IsFirst-from_position _ _ c.position.result (λ b. blank b ≡ false) (λ b. blank b ≡ true) c.position.ensures.ran (YieldsList-from_slice c.args.text.now cc) (λ x q k. search (rules, tests)) (λ x q k. search (rules, tests))

pub returns-in_err-start : goal.returns-in_err-start
returns-in_err-start c =
    let none : c.position.result ≡ None = grind arith in
    rw c.from_residual.ensures (no_words c.args.text.now (MatchOption-at_none _ _ none (begins (goal.at.returns-in_err-start c).After-position)))

pub returns : goal.returns
returns c =
    let text = c.args.text.now in
    let start = c.in_ok-start.start in
    let rest = take (length text - start) (drop start text) in
    let at = MatchOption-at_some _ _ _ c.in_ok-start.was (begins (goal.at.returns c).After-position) in
    let ends : MatchOption c.position-2.result (AllWithin (λ b. blank b ≡ false) rest 0 (length rest)) (λ j. (j < length rest) × HoldsAt (λ b. blank b ≡ true) rest j × AllWithin (λ b. blank b ≡ false) rest 0 j) =
    IsFirst-from_position _ _ c.position-2.result (λ b. blank b ≡ true) (λ b. blank b ≡ false) c.position-2.ensures.ran (YieldsList-from_slice rest cc) (λ x q k. search (rules, tests)) (λ x q k. search (rules, tests)) in
    rw (c.split_at.ensures.front, c.split_at.ensures.back, c.unwrap_or-end.ensures) (word_from text rest start c.position-2.result (take_rest text start) at.0 at.1 at.2 ends)
