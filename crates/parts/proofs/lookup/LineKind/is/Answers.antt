use Rattle.std.proofs.Common.{rules}
use Rattle.std.specs.Str.{bytes_eq}
use Rattle.parts.proofs.Anys.{any_map}
use Rattle.parts.proofs.lookup.LineKind.is.Goals as goal

pub returns-then-not-is_passed : goal.returns-then-not-is_passed
returns-then-not-is_passed c = let e = any_map (λ w. w.now) (λ w. bytes_eq w c.args.name.now) c.args.words.now in search rules
