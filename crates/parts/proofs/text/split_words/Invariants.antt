use Rattle.std.proofs.Common.{◌≡◌, ◌++◌, map, length}
use Rattle.parts.specs.Text.{words}
use Rattle.parts.proofs.text.split_words.Given as goal

-- what is found, and what is still to find
abbrev pub invariant-loop-word : goal.invariant-loop-word
invariant-loop-word l = map (λ w. w.now) l.found.items ++ words l.rest ≡ words l.line

abbrev pub decreases-loop-word : goal.decreases-loop-word
decreases-loop-word l = length l.rest
