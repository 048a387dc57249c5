use Rattle.std.proofs.Common.{◌≡◌, ℕ, ◌+◌, ◌-◌, ◌*◌, ◌<◌, ◌≢◌, List, get_or, set, sym, ap, ◌∙◌, subst, arith, rules}
use Rattle.entry.proofs.Moves.{held_kept, kept_then, load_some, root_cleared, root_put, rooted, slotted, slotted_after}
use Rattle.entry.specs.Entries.{Forgot, OnlyRoot, Slotted, cell_of}
use Rattle.heap.specs.Calls.{root, slot_of, with_root, with_slot}
use Rattle.heap.specs.Graph.{content}
use Rattle.heap.specs.States.{State, state}
use Rattle.entry.proofs.index.forget.Goals as goal

-- The slot of the last node, once the part in it was seen.
forgot : (x f : ℕ) (s a b d s' : State) → OnlyRoot 2 s a → b ≡ with_root a 0 (content a.graph (root a 2) f) → root a 2 ≢ 0 → root b 0 ≡ x → d ≡ with_root b 0 0 → s' ≡ with_slot d (slot_of d 2 f) (root d 0) → Forgot x s s'
forgot x f s a b d s' sought load some seen clear store =
    let ne : 2 ≢ 0 = omega arith in
    let other : 1 ≢ 0 = omega arith in
    let node-other : 1 ≢ 2 = omega arith in
    let before : 0 < 2 = omega arith in
    let lt = root_put a b 0 2 (content a.graph (root a 2) f) before some load in
    let one = rooted 0 _ a b load in
    let two = rooted 0 _ b d clear in
    let kept = kept_then (kept_then sought.kept one.kept) two.kept in
    let node : root d 2 ≡ root a 2 = two.others 2 ne ∙ one.others 2 ne in
    let same : set d.graph.slots (slot_of d 2 f) (root d 0) ≡ set s.graph.slots (slot_of a 2 f) 0 =
    ap (λ (t : List ℕ). set t (slot_of d 2 f) (root d 0)) kept.slots
    ∙ ap (λ (k : ℕ). set s.graph.slots (4 * (k - 1) + f) (root d 0)) node
    ∙ ap (λ (k : ℕ). set s.graph.slots (slot_of a 2 f) k) (root_cleared b d 0 clear) in
    record {
      slot = slot_of a 2 f;
      was = ap (λ (t : List ℕ). get_or t (slot_of a 2 f) 0) (sym sought.kept.slots) ∙ sym lt ∙ seen;
      now_empty = slotted_after kept (subst (λ (t : List ℕ). Slotted t d s') same (slotted (slot_of d 2 f) (root d 0) d s' store));
      owner = ap (λ (t : State). root t 1) store ∙ two.others 1 other ∙ one.others 1 other ∙ sought.others 1 node-other;
    }

pub returns : goal.returns
returns g c =
    let load = c.in_ok-load.ensures.does.0 in
    let clear = c.in_ok-clear.ensures.does.0 in
    let store = c.in_ok-store.ensures.does in
    let a = state c.seek.new.heap in
    let b = state c.load.new.self in
    let d = state c.clear.new.self in
    let f = c.digit-f.result in
    let seen : root b 0 ≡ cell_of c.args.cells.now c.args.part = search rules in (
      forgot _ f (state c.args.heap.now) a b d (state c.store.new.self) c.in_ok-seek.ensures load.state (load_some a 0 2 f load.cause) seen clear.state store.0.state,
      λ h.
          let kept = c.in_ok-seek.ensures.kept in
          c.in_ok-store.ensures.keeps.0 (c.in_ok-clear.ensures.keeps.0 (c.in_ok-load.ensures.keeps.0 (held_kept g.L.Ledger.ops kept.cells kept.slots h))),
    )
