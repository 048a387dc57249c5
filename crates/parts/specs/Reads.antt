-- What a line does to a drawing, and what a text gives.
use Rattle.std.specs.Prelude.{◌≡◌, cond, not, List, [], ◌∷◌, ◌++◌, map, length, Some, None, Ok, Err, vec_items, Option, Result}
use Rattle.parts.specs.Building.{Building}
use Rattle.parts.specs.Drawn.{Drawn, passed, descriptions, references}
use Rattle.parts.specs.Faults.{fault_of, Sound, Faulty}
use Rattle.parts.specs.Text.{Bytes, lines, words}
use Rattle.parts.specs.declared.drawing.Drawing.{Drawing}
use Rattle.parts.specs.declared.fault.LineError.{LineError}
use Rattle.parts.specs.declared.fault.LineError.TheVariants.{Wrong, Memory}
use Rattle.parts.specs.declared.fault.Fault.{Fault}
use Rattle.parts.specs.declared.fault.ReadError.{ReadError}
use Rattle.parts.specs.declared.fault.ReadError.TheVariants.{Wrong as WrongLine, Memory as NoMemory}

-- What a line of these words describes: one part or none.
abbrev pub described : List Bytes → List (List Bytes)
described ws = cond (not (passed ws)) (ws ∷ []) []

-- What is wrong with a line of these words, after some descriptions.
abbrev pub fault_after : List (List Bytes) → List Bytes → Option Fault
fault_after ds ws = cond (passed ws) None (fault_of ds ws)

-- A drawing after one more line.
abbrev pub Taken : List (List Bytes) → Bytes → Drawing → Result (Unit {0}) LineError → Type 0
Taken ds line after (Ok _) = (fault_after ds (words line) ≡ None) × Building (ds ++ described (words line)) after
Taken ds line after (Err (Wrong e)) = fault_after ds (words line) ≡ Some e
Taken ds line after (Err Memory) = Unit {0}

-- No description has a fault, and the drawing is what the lines describe.
pub record Complete (text : Bytes) (d : Drawing) : Type 0 where
  pub sound : Sound (lines text) (length (lines text))
  pub drawn : Drawn (descriptions (lines text)) (map (λ w. w.now) (vec_items d.names)) (vec_items d.slots)
  pub count : d.lines ≡ length (descriptions (lines text))
  pub pointers : d.references ≡ references (descriptions (lines text))

abbrev pub Reads : Bytes → Result Drawing ReadError → Type 0
Reads text (Ok d) = Complete text d
Reads text (Err (WrongLine line fault)) = Faulty (lines text) line fault
Reads text (Err NoMemory) = Unit {0}
