-- What one edit says of a drawing's slots, and what is wrong with it. Assumes nothing.
use Rattle.std.proofs.Common.{◌≡◌, ◌<◌, ◌≤◌, Bool, true, cond, not, ◌&&◌, ◌||◌, ltb, List, [], ◌∷◌, ◌++◌, length, get_or, Some, None, ◌∙◌, ⊎_elim, arith}
use Rattle.std.specs.List.{ContainsAt as Has, AllByRecursion}
use Rattle.std.proofs.lemmas.Bool.{cases_lt, and_from, and_left, and_right, or_from, or_left, or_right, not_from_true, not_from_false, cond-true, cond-false, lt-ltb, le-ltb}
use Rattle.parts.specs.Drawn.{subject}
use Rattle.parts.specs.Edits.{is_slot, owner, is_part, edit_fault, Makes, Make, Within}
use Rattle.parts.specs.Text.{Bytes}
use Rattle.parts.specs.declared.edits.Edit.{Edit}
use Rattle.parts.specs.declared.fault.Fault.TheVariants.{UnknownPart}
use Rattle.parts.proofs.Firsts.{among_decides, unknown}

module _ (names ws : List Bytes) where
  -- an edit that is well formed
  module _ (short : length ws ≤ 3) (slot : is_slot (subject ws) ≡ true) where
    abbrev lost : Bool
    lost = not (is_part names (owner (subject ws))) || (ltb 2 (length ws) && not (is_part names (get_or ws 2 [])))

    formed : edit_fault names ws ≡ cond lost (Some UnknownPart) None
    formed = cond-false _ _ _ (or_from _ _ (le-ltb 3 (length ws) short) (not_from_true _ slot))

    pub no_owner : (Has names (owner (subject ws)) → ⊥) → edit_fault names ws ≡ Some UnknownPart
    no_owner n = formed ∙ cond-true _ _ _ (or_left _ _ (not_from_false _ (unknown names _ n)))

    pub no_other : 2 < length ws → (Has names (get_or ws 2 []) → ⊥) → edit_fault names ws ≡ Some UnknownPart
    no_other l n = formed ∙ cond-true _ _ _ (or_right _ _ (and_from _ _ (lt-ltb 2 (length ws) l) (not_from_false _ (unknown names _ n))))

    pub no_fault : Has names (owner (subject ws)) → (2 < length ws → Has names (get_or ws 2 [])) → edit_fault names ws ≡ None
    no_fault h other =
        formed
        ∙ cond-false _ _ _ (or_from _ _ (not_from_true _ ((among_decides names _).1 h))
        (⊎_elim (λ l. and_right _ _ (not_from_true _ ((among_decides names _).1 (other l)))) (λ g. and_left _ _ (le-ltb 2 (length ws) g)) (cases_lt 2 (length ws))))

module _ (names : List Bytes) where
  -- one edit more
  pub make_push : (wss : List (List Bytes)) (es : List Edit) (ws : List Bytes) (e : Edit) → Make names wss es → Makes names ws e → Make names (wss ++ ws ∷ []) (es ++ e ∷ [])
  make_push [] [] ws e h m = (m, tt)
  make_push [] (x ∷ es) ws e h m = absurd h
  make_push (x ∷ wss) [] ws e h m = absurd h
  make_push (x ∷ wss) (y ∷ es) ws e h m = (h.0, make_push wss es ws e h.1 m)

  makes_within : (ws : List Bytes) (e : Edit) → Makes names ws e → Within (length names) e
  makes_within ws e m = record {
    slot = omega (arith, m.slot, m.part.0, m.part.1, m.target.small);
    content = ⊎_elim (λ l. (m.filled l).1) (λ g. omega (arith, m.emptied g)) (cases_lt 2 (length ws));
  }

  pub make_within : (wss : List (List Bytes)) (es : List Edit) → Make names wss es → AllByRecursion (Within (length names)) es
  make_within [] [] h = tt
  make_within [] (e ∷ es) h = absurd h
  make_within (ws ∷ wss) [] h = absurd h
  make_within (ws ∷ wss) (e ∷ es) h = (makes_within ws e h.0, make_within wss es h.1)
