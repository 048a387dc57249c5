-- How the cause of a refusal is found.
use Rattle.std.specs.Prelude.{Bool, cond, List, [], ◌∷◌, Some, None, Option}
use Rattle.refusals.specs.declared.refusal.Refusal.{Refusal}

-- Tests run down a list: the first that holds names the cause.
pub record Check : Type 0 where
  pub fails : Bool
  pub cause : Refusal

abbrev pub check : Bool → Refusal → Check
check b e = record { fails = b; cause = e }

abbrev pub cause_of : List Check → Option Refusal
cause_of [] = None
cause_of (c ∷ cs) = cond c.fails (Some c.cause) (cause_of cs)
