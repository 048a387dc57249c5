use Rattle.std.proofs.Common.{◌≡◌, length, rules}
use Rattle.coalescing.proofs.Sparse.{pushed_entries, pushed_formed}
use Rattle.coalescing.proofs.log.Entries.push.Goals as goal

pub returns : goal.returns
returns c =
    let e = c.args.self.now in
    let long : length e.at ≡ 64 = search rules in
    let wide : length e.index ≡ 4096 = search rules in
    record {
      added = pushed_entries e c.args.entry long c.requires.1;
      kept = pushed_formed e c.args.entry long wide c.requires.1 c.requires.0;
    }
