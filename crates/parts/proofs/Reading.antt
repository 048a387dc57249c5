-- Reading a text line by line: what holds after each line, and at the end.
use Rattle.std.proofs.Common.{◌≡◌, ℕ, ◌+◌, ◌-◌, ◌<◌, not, List, [], ◌∷◌, ◌++◌, map, length, get_or, take, Some, Ok, Err, filter, sym, ap, ◌∙◌, subst, arith, below_more}
use Rattle.std.proofs.lemmas.List.Elements.{filter-append}
use Rattle.std.proofs.lemmas.List.{map_more, take_all}
use Rattle.parts.proofs.Building.{building_drawn}
use Rattle.parts.specs.Building.{Building}
use Rattle.parts.specs.Drawn.{passed, descriptions}
use Rattle.parts.specs.Errors.{at_line}
use Rattle.parts.specs.Faults.{fault_at, Sound, Faulty}
use Rattle.parts.specs.Reads.{described, fault_after, Taken, Complete, Reads}
use Rattle.parts.specs.Text.{Bytes, lines, words}
use Rattle.parts.proofs.Turns.{IsLine}
use Rattle.parts.specs.declared.drawing.Drawing.{Drawing}
use Rattle.parts.specs.declared.fault.LineError.{LineError}
use Rattle.parts.specs.declared.fault.LineError.TheVariants.{Wrong, Memory}
use Rattle.parts.specs.declared.fault.Fault.{Fault}

-- The first j lines of the text are done.
pub record Sofar (text : Bytes) (j : ℕ) (d : Drawing) : Type 0 where
  pub sound : Sound (lines text) j
  pub built : Building (descriptions (take j (lines text))) d

pub none_done : (text : Bytes) (d : Drawing) → Building [] d → Sofar text 0 d
none_done text d h = record { sound = λ i l. absurd (omega arith); built = h }

descriptions_more : (ls : List Bytes) (j : ℕ) (line : Bytes) → j < length ls → get_or ls j [] ≡ line → descriptions (take (j + 1) ls) ≡ descriptions (take j ls) ++ described (words line)
descriptions_more ls j line lt here =
    ap (filter (λ ws. not (passed ws))) (map_more words ls j [] lt) ∙ filter-append (λ ws. not (passed ws)) (map words (take j ls)) (words (get_or ls j []) ∷ []) ∙ ap (λ l. descriptions (take j ls) ++ described (words l)) here

fault_here : (ls : List Bytes) (j : ℕ) (line : Bytes) → get_or ls j [] ≡ line → fault_at ls j ≡ fault_after (descriptions (take j ls)) (words line)
fault_here ls j line here = ap (λ l. fault_after (descriptions (take j ls)) (words l)) here

module _ (text line : Bytes) (j : ℕ) (d : Drawing) (sofar : Sofar text j d) (at : IsLine (lines text) j line) where
  faulty : (e : Fault) → fault_after (descriptions (take j (lines text))) (words line) ≡ Some e → Faulty (lines text) (j + 1) e
  faulty e wrong =
      let back : j + 1 - 1 ≡ j = omega arith in
      record {
        some = omega arith;
        within = omega (arith, at.within);
        fault = ap (fault_at (lines text)) back ∙ fault_here (lines text) j line (at.here []) ∙ wrong;
        before = subst (Sound (lines text)) (sym back) sofar.sound;
      }

  pub stopped : (d' : Drawing) (e : LineError) → Taken (descriptions (take j (lines text))) line d' (Err e) → Reads text (Err (at_line (j + 1) e))
  stopped d' (Wrong e) told = faulty e told
  stopped d' Memory told = tt

  pub one_more : (d' : Drawing) → Taken (descriptions (take j (lines text))) line d' (Ok tt) → Sofar text (j + 1) d'
  one_more d' told = record {
    sound = below_more _ _ sofar.sound (fault_here (lines text) j line (at.here []) ∙ told.0);
    built = subst (λ l. Building l d') (sym (descriptions_more (lines text) j line at.within (at.here []))) told.1;
  }

pub all_done : (text : Bytes) (j : ℕ) (d : Drawing) → j ≡ length (lines text) → Sofar text j d → Complete text d
all_done text j d end sofar =
    let whole = take_all j (lines text) (omega arith) in
    let drawn = building_drawn _ d (subst (λ l. Building (descriptions l) d) whole sofar.built) in
    record {
      sound = subst (Sound (lines text)) end sofar.sound;
      drawn = drawn.0;
      count = drawn.1;
      pointers = drawn.2;
    }
