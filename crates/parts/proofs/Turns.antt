-- A loop over the lines of a text, each with the number of those above it.
use Rattle.std.proofs.Common.{◌≡◌, ℕ, ◌<◌, Bool, false, List, length, get_or, Some, None, Ok, Err, Option, Result, is_ok, MatchResult, IsErrAnd, sym, refl, ap, ◌∙◌, arith, Bor}
use denote.Param.Members.{Mut}
use Rattle.std.specs.Fn.{CalledAt}
use Rattle.std.specs.Iterator.{Yields}
use Rattle.std.specs.Iterator.Adapters.{enumerate_source, enumerate_count, enumerate_steps}
use Rattle.std.specs.List.{enumerate_from}
use Rattle.std.specs.Slice.Iter.{split_rest, split_done, split_callee, split_steps}
use Rattle.std.specs.declared.iter.Enumerate.{Enumerate}
use Rattle.std.specs.declared.slice.Split.{Split}
use Rattle.std.proofs.lemmas.Iterator.{YieldsList}
use Rattle.std.proofs.lemmas.Iterator.Consumers.{YieldsList-at, YieldsList-from_enumerate, YieldsList-turn, YieldsList-end}
use Rattle.std.proofs.lemmas.Iterator.Splits.{YieldsList-from_slice_split}
use Rattle.std.proofs.lemmas.List.{get_or_default}
use Rattle.std.proofs.lemmas.List.FromFn.{get_or-enumerate_from, length-enumerate_from}
use Rattle.std.proofs.lemmas.Result.{err_from_is_err_and}
use Rattle.parts.specs.Text.{Bytes, newline, lines}

-- This is line j, from 0.
pub record IsLine (ls : List Bytes) (j : ℕ) (line : Bytes) : Type 0 where
  pub within : j < length ls
  pub here : (d : Bytes) → get_or ls j d ≡ line

line_at : (ls : List Bytes) (j n : ℕ) (line : Bytes) → (j < length (enumerate_from 0 ls)) × (◌≡◌ {A = ℕ × Bytes} (n, line) (get_or (enumerate_from 0 ls) j (n, line))) → (n ≡ j) × IsLine ls j line
line_at ls j n line h =
    let within : j < length ls = omega (arith, h.0, length-enumerate_from 0 ls) in
    let e = h.1 ∙ get_or-enumerate_from 0 ls j (n, line) within in (
      ap (λ (p : ℕ × Bytes). p.0) e ∙ omega arith,
      record { within = within; here = λ d. get_or_default ls j d line within ∙ sym (ap (λ (p : ℕ × Bytes). p.1) e) },
    )

-- A text that is cut at newlines, and the pieces counted from 0.
module _ {F : Type 0} {s : Split ℕ F} {t : Enumerate (Split ℕ F)} (g : Mut F (Bor ℕ × Unit {0}) Bool) {f : F} (text : Bytes)
    (rest : split_rest s ≡ text) (done : split_done s ≡ false) (callee : split_callee s ≡ f) (source : enumerate_source t ≡ s) (count : enumerate_count t ≡ 0)
    (tests : (x : ℕ) (b : Bool) (q : F) → CalledAt g f x b q → (q ≡ f) × (b ≡ newline x)) where
  numbered : YieldsList {B = ℕ × Bytes} (enumerate_steps (split_steps g)) (λ p. (p.0, p.1.now)) t (enumerate_from 0 (lines text))
  numbered = YieldsList-from_enumerate (YieldsList-at source (YieldsList-from_slice_split g newline text rest done callee tests)) count

  module _ (before : List (ℕ × Bor Bytes)) (now next : Enumerate (Split ℕ F)) (so_far : Yields (enumerate_steps (split_steps g)) t before now)
      (r : Option (ℕ × Bor Bytes)) (step : enumerate_steps (split_steps g) now r next) where
    pub turn : (n : ℕ) (line : Bor Bytes) → r ≡ Some (n, line) → (n ≡ length before) × IsLine (lines text) (length before) line.now
    turn n line is = line_at (lines text) (length before) n line.now (YieldsList-turn numbered before now so_far r next (n, line) is step)

    pub ended : r ≡ None → length before ≡ length (lines text)
    ended is = (YieldsList-end numbered before now so_far r next is step).1 ∙ length-enumerate_from 0 (lines text)

-- What `map_err` was given, by what it gave.
pub mapped_ok : {X E F : Type 0} (post : E → F → Type 0) (r : Result X E) (s : Result X F) → MatchResult r (λ v. s ≡ Ok v) (λ e. IsErrAnd s (post e)) → (x : X) → s ≡ Ok x → r ≡ Ok x
mapped_ok post (Ok v) s h x is = cc
mapped_ok post (Err e) s h x is = let p = err_from_is_err_and s h in cc p.1

pub mapped_err : {X E F : Type 0} (f : E → F) (r : Result X E) (s : Result X F) (y : F) → is_ok s ≡ is_ok r → ((e : E) → r ≡ Err e → s ≡ Err (f e)) → s ≡ Err y → (e : E) × (r ≡ Err e) × (y ≡ f e)
mapped_err f (Ok v) s y same makes is = let k = ap is_ok is in let z : ⊥ = cc in absurd z
mapped_err f (Err e) s y same makes is = let made = makes e refl in (e, refl, cc)
