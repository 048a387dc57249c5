-- Collecting a text's edits line by line: what holds after each line, and at the end.
use Rattle.std.proofs.Common.{◌≡◌, ℕ, ◌+◌, ◌-◌, ◌<◌, true, cond, List, [], ◌∷◌, ◌++◌, map, length, get_or, take, Some, None, Ok, Err, filter, sym, ap, ◌∙◌, subst, arith, below_more}
use Rattle.std.proofs.lemmas.List.Elements.{filter-append}
use Rattle.std.proofs.lemmas.List.{map_more, take_all}
use Rattle.parts.proofs.Editing.{make_push, make_within}
use Rattle.parts.proofs.Turns.{IsLine}
use Rattle.parts.specs.Drawn.{is_edit}
use Rattle.parts.specs.Edits.{edit_lines, edit_fault, Makes, Make, fault_by, edit_fault_at, Clean, Edited, Misedited, Unedited, edited, Collected}
use Rattle.parts.specs.Errors.{at_line}
use Rattle.parts.specs.Text.{Bytes, lines, words}
use Rattle.parts.specs.declared.edits.Edit.{Edit}
use Rattle.parts.specs.declared.fault.LineError.{LineError}
use Rattle.parts.specs.declared.fault.LineError.TheVariants.{Wrong, Memory}
use Rattle.parts.specs.declared.fault.Fault.{Fault}

-- An edit is added to those before it.
pub one_edited : (names ws : List Bytes) (before after : List Edit) (e : Edit) → is_edit ws ≡ true → edit_fault names ws ≡ None → Makes names ws e → after ≡ before ++ e ∷ [] → Collected names ws before after (Ok tt)
one_edited names ws before after e edit none makes grown = (
  ap (λ b. cond b (edit_fault names ws) None) edit ∙ none,
  λ wss h.
      subst (λ l. Make names l after) (sym (ap (λ b. wss ++ cond b (ws ∷ []) []) edit))
      (subst (Make names (wss ++ ws ∷ [])) (sym grown) (make_push names wss before ws e h makes)),
)

-- The first j lines of the text are done.
pub record Sofar (names : List Bytes) (text : Bytes) (j : ℕ) (es : List Edit) : Type 0 where
  pub clean : Clean names (lines text) j
  pub made : Make names (edit_lines (take j (lines text))) es

pub none_done : (names : List Bytes) (text : Bytes) (es : List Edit) → es ≡ [] → Sofar names text 0 es
none_done names text es none = record { clean = λ i l. absurd (omega arith); made = subst (Make names []) (sym none) tt }

edits_more : (ls : List Bytes) (j : ℕ) (line : Bytes) → j < length ls → get_or ls j [] ≡ line → edit_lines (take (j + 1) ls) ≡ edit_lines (take j ls) ++ edited (words line)
edits_more ls j line lt here =
    ap (filter is_edit) (map_more words ls j [] lt) ∙ filter-append is_edit (map words (take j ls)) (words (get_or ls j []) ∷ []) ∙ ap (λ l. edit_lines (take j ls) ++ edited (words l)) here

module _ (names : List Bytes) (text line : Bytes) (j : ℕ) (es es' : List Edit) (sofar : Sofar names text j es) (at : IsLine (lines text) j line) where
  fault_here : edit_fault_at names (lines text) j ≡ fault_by names (words line)
  fault_here = ap (λ l. fault_by names (words l)) (at.here [])

  faulty : (e : Fault) → fault_by names (words line) ≡ Some e → Misedited names (lines text) (j + 1) e
  faulty e wrong =
      let back : j + 1 - 1 ≡ j = omega arith in
      record {
        some = omega arith;
        within = omega (arith, at.within);
        fault = ap (edit_fault_at names (lines text)) back ∙ fault_here ∙ wrong;
        before = subst (Clean names (lines text)) (sym back) sofar.clean;
      }

  pub stopped : (e : LineError) → Collected names (words line) es es' (Err e) → Unedited names (lines text) (at_line (j + 1) e)
  stopped (Wrong e) told = faulty e told
  stopped Memory told = tt

  pub one_more : Collected names (words line) es es' (Ok tt) → Sofar names text (j + 1) es'
  one_more told = record {
    clean = below_more _ _ sofar.clean (fault_here ∙ told.0);
    made = subst (λ l. Make names l es') (sym (edits_more (lines text) j line at.within (at.here []))) (told.1 _ sofar.made);
  }

pub all_done : (names : List Bytes) (text : Bytes) (j : ℕ) (es : List Edit) → j ≡ length (lines text) → Sofar names text j es → Edited names (lines text) es
all_done names text j es end sofar =
    let whole = take_all j (lines text) (omega arith) in
    let made = subst (λ l. Make names (edit_lines l) es) whole sofar.made in
    record {
      clean = subst (Clean names (lines text)) end sofar.clean;
      made = made;
      within = make_within names _ es made;
    }
