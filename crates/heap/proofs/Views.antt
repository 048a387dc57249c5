-- The tables as a state, after each write.
use Rattle.std.proofs.Common.{◌≡◌, ℕ, ◌*◌, ◌<◌, ◌≤◌, true, ◌||◌, eqb, List, get_or, take, set, replicate, sym, refl, ap, ◌∙◌, arith, get_or-take}
use lib.Seq.{take-set-lt, set-get_or}
use Rattle.heap.proofs.Flags.{flags_none, flags_put}
use Rattle.heap.specs.Bits.{flags, Put}
use Rattle.heap.specs.Calls.{lost, with_slot, given}
use Rattle.heap.specs.States.{view, sized}
use Rattle.heap.specs.declared.graph.Graph.{Graph as Tables}
use Rattle.std.proofs.lemmas.List.{take-replicate}
use Rattle.std.proofs.lemmas.Bool.{or_right, eq-eqb}

pub view_none : (n : ℕ) → n ≤ 1024
    → view (record { n = n; slots = replicate 4096 0; roots = replicate 16 0; holds = replicate 16 0; used = replicate 128 0; suspects = replicate 128 0; last = 0 }) ≡ sized n
view_none n h =
    let s : take (4 * n) (replicate 4096 0) ≡ replicate (4 * n) 0 = take-replicate {X = ℕ} (4 * n) 4096 0 (omega arith) in
    let b = flags_none n in
    rw s (rw b refl)

-- A write of slot i, with the suspects that it makes.
pub view_slot : (t : Tables) (i c : ℕ) (suspects : List ℕ) → i < 4 * t.n → flags t.n suspects ≡ lost (get_or t.slots i 0) c (flags t.n t.suspects)
    → view (record t { slots = set t.slots i c; suspects = suspects }) ≡ with_slot (view t) i c
view_slot t i c suspects l e =
    let s = take-set-lt (4 * t.n) t.slots i c l in
    let o = get_or-take (4 * t.n) t.slots i 0 l in
    rw s (rw e (rw o refl))

-- A slot that gets what it contains.
pub view_same : (t : Tables) (i c : ℕ) → i < 4 * t.n → get_or (take (4 * t.n) t.slots) i 0 ≡ c → view t ≡ with_slot (view t) i c
view_same t i c l e =
    let xs = take (4 * t.n) t.slots in
    let s : set xs i c ≡ xs = ap (set xs i) (sym e) ∙ set-get_or xs i 0 in
    let k : (eqb (get_or xs i 0) 0 || eqb (get_or xs i 0) c) ≡ true = or_right _ _ (eq-eqb (get_or xs i 0) c e) in
    rw s (rw k refl)

-- The cell c is taken into use.
pub view_given : (t : Tables) (c : ℕ) (used : List ℕ) → 0 < c → c ≤ t.n → Put c true t.used used → view (record t { used = used; last = c }) ≡ given (view t) c
view_given t c used h l p = let e = flags_put t.n c true t.used used h l p in rw e refl
