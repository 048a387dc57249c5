use Rattle.std.proofs.Common.{◌≡◌, ℕ, true, ◌+◌, ◌-◌, ◌*◌, ◌<◌, ◌≤◌, List, [], length, get_or, None, Some, sym, ap, subst, arith, Bor}
use lib.ListN.{length-map}
use Rattle.std.proofs.lemmas.List.{get_or-map}
use Rattle.std.proofs.lemmas.Option.{MatchOption-at_some, MatchOption-at_none}
use Rattle.std.proofs.lemmas.Result.{err_from_is_err_and}
use Rattle.std.specs.List.{ContainsAt as Has}
use Rattle.parts.specs.Building.{bytes, known}
use Rattle.parts.specs.Drawn.{subject, Called}
use Rattle.parts.specs.Edits.{Slot, is_slot, owner}
use Rattle.parts.specs.declared.fault.Fault.TheVariants.{UnknownPart}
use Rattle.parts.proofs.Editing.{no_owner, no_other, no_fault}
use Rattle.parts.proofs.Firsts.{has_called}
use Rattle.parts.proofs.edits.edit_by.Goals as goal
use Rattle.parts.proofs.edits.edit_by.Goals.{In_ok-name, In_ok-part}

first : (words : List (Bor (List ℕ))) (d : Bor (List ℕ)) → 0 < length words → subject (bytes words) ≡ (get_or words 0 d).now
first words d some = get_or-map (λ w. w.now) words 0 d [] some

few : (words : List (Bor (List ℕ))) → length words ≤ 3 → length (bytes words) ≤ 3
few words h = rw length-map h

slot : (c : In_ok-name) → (is_slot (subject (bytes c.args.words.now)) ≡ true) × (c.in_ok-name.name.now ≡ owner (subject (bytes c.args.words.now))) × Slot (subject (bytes c.args.words.now)) c.in_ok-name.name.now c.in_ok-name.digit
slot c =
    let words = c.args.words.now in
    let some : c.split_slot.result ≡ Some (c.in_ok-name.name, c.in_ok-name.digit) = grind arith in
    let word : (get_or words 0 _).now ≡ subject (bytes words) = sym (first words _ c.requires) in
    subst (λ w. (is_slot w ≡ true) × (c.in_ok-name.name.now ≡ owner w) × Slot w c.in_ok-name.name.now c.in_ok-name.digit) word
    (MatchOption-at_some _ (λ p. (is_slot (get_or words 0 _).now ≡ true) × (p.0.now ≡ owner (get_or words 0 _).now) × Slot (get_or words 0 _).now p.0.now p.1) _ some c.split_slot.ensures)

part : (c : In_ok-part) → Called (known c.args.drawing.now) c.in_ok-part.part c.in_ok-name.name.now
part c = let some : c.find.result ≡ Some c.in_ok-part.part = grind arith in MatchOption-at_some _ (λ k. Called (known c.args.drawing.now) k c.in_ok-name.name.now) _ some c.find.ensures

pub returns-in_err-part : goal.returns-in_err-part
returns-in_err-part c =
    let names = known c.args.drawing.now in
    let p = err_from_is_err_and c.from_residual-in_err-part.result c.from_residual-in_err-part.ensures.1 in
    let at = slot (goal.at.returns-in_err-part c).In_ok-name in
    let none : c.find.result ≡ None = grind arith in
    let which : c.in_err-part.field-0.0 ≡ UnknownPart = grind arith in
    let unknown = MatchOption-at_none (Has names c.in_ok-name.name.now → ⊥) _ none c.find.ensures in
    rw (p.1, p.2, which) (no_owner names (bytes c.args.words.now) (few c.args.words.now c.if-words-gt-MOST_WORDS.false) at.0 (λ h. unknown (subst (Has names) (sym at.1) h)))

pub returns-in_err-content : goal.returns-in_err-content
returns-in_err-content c =
    let p = err_from_is_err_and c.from_residual-in_err-content.result c.from_residual-in_err-content.ensures.1 in
    let at = slot (goal.at.returns-in_err-content c).In_ok-name in
    let none : c.new_content.result ≡ None = grind arith in
    let which : c.in_err-content.field-0.0 ≡ UnknownPart = grind arith in
    let unknown = MatchOption-at_none ((2 < length c.args.words.now) × (Has (known c.args.drawing.now) (get_or (bytes c.args.words.now) 2 []) → ⊥)) _ none c.new_content.ensures in
    rw (p.1, p.2, which) (no_other (known c.args.drawing.now) (bytes c.args.words.now) (few c.args.words.now c.if-words-gt-MOST_WORDS.false) at.0 (rw length-map unknown.0) unknown.1)

pub returns : goal.returns
returns c =
    let words = c.args.words.now in
    let names = known c.args.drawing.now in
    let here = goal.at.returns c in
    let at = slot here.In_ok-name in
    let is = part here.In_ok-part in
    let some : c.new_content.result ≡ Some c.in_ok-content.content = grind arith in
    let put = MatchOption-at_some _ (λ k. (2 < length words → Called names k (get_or (bytes words) 2 [])) × (length words ≤ 2 → k ≡ 0)) _ some c.new_content.ensures in
    let long = length-map words (λ w. w.now) in (
      no_fault names (bytes words) (few words c.if-words-gt-MOST_WORDS.false) at.0
          (subst (Has names) at.1 (has_called names _ _ is))
          (λ l. has_called names _ _ (put.0 (omega (arith, l, long)))),
      record {
        name = c.in_ok-name.name.now;
        c = c.in_ok-part.part;
        f = c.in_ok-name.digit;
        target = at.2;
        part = is;
        slot = ap (λ k. 4 * (c.in_ok-part.part - 1) + k) c.from.ensures;
        filled = λ l. put.0 (omega (arith, l, long));
        emptied = λ l. put.1 (omega (arith, l, long));
      },
    )
