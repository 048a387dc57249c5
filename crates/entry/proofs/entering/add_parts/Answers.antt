use Rattle.std.proofs.Common.{◌≡◌, ℕ, ◌-◌, ◌≤◌, List, [], ◌∷◌, ◌++◌, length, Ok, Err, Result, MatchResult, IsErrAnd, vec_items, sym, ap, ◌∙◌, subst, arith, rules}
use Rattle.entry.proofs.Lists.{own_more}
use Rattle.entry.proofs.Moves.{grown_then}
use Rattle.std.proofs.lemmas.List.{length_push}
use Rattle.std.proofs.lemmas.Result.{err_from_is_err_and, MatchResult-at_ok}
use Rattle.entry.specs.Entries.{Added, Grown, Own, Together}
use Rattle.ledgers.specs.Meaning.{Ops}
use Rattle.heap.specs.States.{State, state}
use Rattle.entry.proofs.entering.add_parts.Goals as goal
use Rattle.entry.proofs.entering.add_parts.Goals.{else-loop-part-test, then-loop-part-test+in_ok-reserve+in_ok-cell+else-part-count}

-- A success that `map_err` hands on is what it was given.
mapped_ok : {X E F : Type 0} (post : E → F → Type 0) (r : Result X E) (s : Result X F) → MatchResult r (λ v. s ≡ Ok v) (λ e. IsErrAnd s (post e)) → (x : X) → s ≡ Ok x → r ≡ Ok x
mapped_ok post (Ok v) s h x is = cc
mapped_ok post (Err e) s h x is = let p = err_from_is_err_and s h in cc p.1

-- What is known once a part was added, in an iteration that began with part k.
more : {L : Type 0} (o : Ops L) (k cell : ℕ) (before after : List ℕ) (s m s' : State) (l n l' : L) → 1 ≤ k → length before ≡ k - 1 → Own before m → Grown s m → Together o s l m n → after ≡ before ++ cell ∷ [] → Added cell m s' × Together o m n s' l' → (length after ≡ k) × Own after s' × Grown s s' × Together o s l s' l'
more o k cell before after s m s' l n l' least size own grown kept pushed add = (
  (let longer = length_push before cell in let same = ap length pushed in omega arith),
  subst (λ (xs : List ℕ). Own xs s') (sym pushed) (own_more before cell m s' own add.0),
  grown_then grown add.0.grown,
  λ h. add.1 (kept h),
)

pub loop-part-preserved : goal.loop-part-preserved
loop-part-preserved g c =
    let inv = c.loop-part.invariant in
    let o = g.L.Ledger.ops in
    let cell = c.in_ok-cell.cell in
    let add : Added cell (state c.loop-part.heap) (state c.add.new.heap) × Together o (state c.loop-part.heap) c.loop-part.ledger (state c.add.new.heap) c.add.new.ledger = search rules in
    let pushed : vec_items c.push_reserved.new.self ≡ vec_items c.loop-part.cells ++ cell ∷ [] = c.push_reserved.ensures.items ∙ ap (λ (l : List ℕ). l ++ cell ∷ []) c.reserve.ensures.items in
    let next = more o c.loop-part.part cell _ _ (state c.args.heap.now) _ (state c.add.new.heap) c.args.ledger.now _ c.add.new.ledger (omega arith) inv.0 inv.1 inv.2 inv.3 pushed add in
    (next.0 ∙ omega arith, next.1, next.2, next.3, omega arith)

pub returns : goal.returns
returns g c =
    let inv = c.loop-part.invariant in
    let o = g.L.Ledger.ops in
    elim c.loop-part-test.branch [
      | else-loop-part-test w ↦ rw (c.from_vec.ensures, w.cells-is, w.heap-is, w.ledger-is) (inv.0 ∙ omega arith, inv.1, inv.2, inv.3)
      | then-loop-part-test+in_ok-reserve+in_ok-cell+else-part-count w ↦
          let cell = w.in_ok-cell.cell in
          let ok : w.add.result ≡ Ok cell = mapped_ok _ w.add.result w.map_err.result w.map_err.ensures.cases cell w.in_ok-cell.was in
          let add : Added cell (state c.loop-part.heap) (state w.add.new.heap) × Together o (state c.loop-part.heap) c.loop-part.ledger (state w.add.new.heap) w.add.new.ledger = MatchResult-at_ok _ _ cell ok w.add.ensures in
          let pushed : vec_items w.push_reserved.new.self ≡ vec_items c.loop-part.cells ++ cell ∷ [] = w.push_reserved.ensures.items ∙ ap (λ (l : List ℕ). l ++ cell ∷ []) w.reserve.ensures.items in
          let next = more o c.loop-part.part cell _ _ (state c.args.heap.now) _ (state w.add.new.heap) c.args.ledger.now _ w.add.new.ledger (omega arith) inv.0 inv.1 inv.2 inv.3 pushed add in
          rw (c.from_vec.ensures, w.cells-is, w.heap-is, w.ledger-is) (next.0 ∙ omega arith, next.1, next.2, next.3)
    ]
