use Rattle.std.proofs.Common.{◌≡◌, ℕ, ◌+◌, List, [], ◌∷◌, ◌++◌, vec_items, sym, ap, ◌∙◌, subst, rules}
use Rattle.entry.proofs.Lists.{pointing_more}
use Rattle.entry.proofs.Moves.{kept_then}
use Rattle.entry.specs.Entries.{OnlyRoots, Pointing, Points}
use Rattle.heap.specs.States.{state}
use Rattle.entry.proofs.pointing.load_all.Goals as goal

pub loop-slot-preserved : goal.loop-slot-preserved
loop-slot-preserved g c =
    let inv = c.loop-slot.invariant in
    let part = c.in_ok-part.part in
    let cells = c.args.cells.now in
    let slot = c.loop-slot.slot in
    let before = vec_items c.loop-slot.parts in
    let t = (state c.args.heap.now).graph.slots in
    let load : Points cells (state c.loop-slot.heap).graph.slots slot part × OnlyRoots (state c.loop-slot.heap) (state c.load_part.new.heap) = search rules in
    let pushed : vec_items c.push_reserved.new.self ≡ before ++ part ∷ [] = c.push_reserved.ensures.items ∙ ap (λ (l : List ℕ). l ++ part ∷ []) c.reserve.ensures.items in (
      subst (Pointing cells t (slot + 1)) (sym pushed) (pointing_more cells t slot before part inv.0 (subst (λ (u : List ℕ). Points cells u slot part) inv.1.slots load.0)),
      kept_then inv.1 load.1,
    )
