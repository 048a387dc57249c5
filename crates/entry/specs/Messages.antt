-- What is printed of an error.
use Rattle.std.specs.Prelude.{ℕ, List, ◌++◌, codes, decimal}
use Rattle.entry.specs.declared.error.EntryError.{EntryError}
use Rattle.entry.specs.declared.error.EntryError.TheVariants.{Refused, Unready, Lost, Memory}
use Rattle.refusals.specs.Words.{number, words}

-- A refusal is printed by its number and its words, after the line that caused it.
abbrev pub report : EntryError → List ℕ
report (Refused line refusal) = codes "line " ++ (decimal line ++ (codes ": refusal " ++ (decimal (number refusal) ++ (codes ": " ++ words refusal))))
report (Unready refusal) = codes "refusal " ++ (decimal (number refusal) ++ (codes ": " ++ words refusal))
report Lost = codes "the index of the parts leads astray"
report Memory = codes "out of memory"
