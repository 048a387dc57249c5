use Rattle.std.proofs.Common.{List, get_or, take, sym, subst}
use Rattle.coalescing.specs.LogLaws.{passed_push}
use Rattle.coalescing.specs.Logs.{Passed, no_entry}
use Rattle.coalescing.specs.declared.log.Entry.{Entry}
use Rattle.std.proofs.lemmas.List.{take_more}
use Rattle.coalescing.proofs.log.acts.send_all.Goals as goal

pub loop-entry-preserved : goal.loop-entry-preserved
loop-entry-preserved g c =
    let entries = c.args.entries.now in
    let i = c.loop-entry.entry-index in
    let more = passed_push (take i entries) (get_or entries i no_entry) c.args.below.now c.loop-entry.below c.send.new.below c.loop-entry.invariant c.send.ensures in
    subst (λ (es : List Entry). Passed g.L.Ledger.ops es c.args.below.now c.send.new.below) (sym (take_more entries i no_entry c.loop-entry-test.true)) more
