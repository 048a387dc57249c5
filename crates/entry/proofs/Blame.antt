-- An error told with its line, or without. Assumes nothing.
use Rattle.std.proofs.Common.{◌≡◌, ℕ, List, length, Some, Result, MatchResult, IsErrAnd, inl, inr, ⊎_elim, sym, refl, ap, ◌∙◌, subst, arith}
use Rattle.std.proofs.lemmas.Result.{err_from_is_err_and}
use Rattle.entry.specs.Located.{Blamed, InDrawing, IsOf, Located, Refusing, Unblamed}
use Rattle.entry.specs.declared.error.Cause.{Cause}
use Rattle.entry.specs.declared.error.Cause.TheVariants.{Refused as Turned, Lost as Astray, Memory as Short}
use Rattle.entry.specs.declared.error.EntryError.{EntryError}
use Rattle.entry.specs.declared.error.EntryError.TheVariants.{Refused, Unready, Lost, Memory}
use Rattle.entry.specs.declared.error.Place.{Place}
use Rattle.entry.specs.declared.error.Stop.{Stop}
use Rattle.heap.specs.States.{State}
use Rattle.ledgers.specs.Meaning.{Ops}
use Rattle.parts.specs.Text.{Bytes}

pub blamed : (names ls : List Bytes) (place : Place) (cause : Cause) (e : EntryError) → Located names ls place cause e → Blamed names ls e
blamed names ls place (Turned r) (Refused line refusal) h = (place, h.1)
blamed names ls place Astray (Refused line refusal) h = let z : ◌≡◌ {A = ℕ} 0 1 = cc in absurd (omega arith)
blamed names ls place Short (Refused line refusal) h = let z : ◌≡◌ {A = ℕ} 0 1 = cc in absurd (omega arith)
blamed names ls place cause (Unready refusal) h = tt
blamed names ls place cause Lost h = tt
blamed names ls place cause Memory h = tt

pub unblamed : {L : Type 0} (o : Ops L) (names : List Bytes) (edits : ℕ) (ls : List Bytes) (s : State) (l : L) (place : Place) (cause : Cause) (e : EntryError)
    → Refusing o (length names) edits s l (record { place = place; cause = cause }) → Located names ls place cause e → Unblamed o names edits ls s l e
unblamed o names edits ls s l place (Turned r) (Unready refusal) why h = ⊎_elim (λ k. inl (k.1 ∙ ap Some (sym h.0))) (λ k. inr (place, k, h.1)) (why r refl)
unblamed o names edits ls s l place Astray (Unready refusal) why h = let z : ◌≡◌ {A = ℕ} 0 1 = cc in absurd (omega arith)
unblamed o names edits ls s l place Short (Unready refusal) why h = let z : ◌≡◌ {A = ℕ} 0 1 = cc in absurd (omega arith)
unblamed o names edits ls s l place cause (Refused line refusal) why h = tt
unblamed o names edits ls s l place cause Lost why h = tt
unblamed o names edits ls s l place cause Memory why h = tt

-- What was being entered is of the drawing, so that a refusal needs no other reason.
pub refused : {A L : Type 0} (o : Ops L) (P : A → Type 0) (parts count edits : ℕ) (s : State) (l : L) (r : Result A Stop) (stop : Stop)
    → IsErrAnd r (λ e. e ≡ stop) → count ≡ parts → ((m : ℕ) → InDrawing count m stop) → MatchResult r P (Refusing o parts edits s l)
refused o P parts count edits s l r stop err same of =
    let p = err_from_is_err_and r err in
    let is_of : InDrawing parts edits p.0 = λ refusal is. subst (λ (n : ℕ). IsOf n edits p.0.place) same (subst (λ (x : Stop). IsOf count edits x.place) (sym p.2) (of edits refusal (ap (λ (x : Stop). x.cause) (sym p.2) ∙ is))) in
    rw p.1 (λ refusal is. inr (is_of refusal is))
