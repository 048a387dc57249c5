-- What is printed of a fault and of an error.
use Rattle.std.specs.Prelude.{ℕ, List, ◌++◌, codes, decimal}
use Rattle.parts.specs.declared.fault.Fault.{Fault}
use Rattle.parts.specs.declared.fault.Fault.TheVariants.{TooManyReferences, NameTooLong, NameNotPrintable, DescribedTwice, TooManyParts, BadEdit, UnknownPart}
use Rattle.parts.specs.declared.fault.ReadError.{ReadError}
use Rattle.parts.specs.declared.fault.ReadError.TheVariants.{Wrong, Memory}

abbrev pub sentence : Fault → List ℕ
sentence TooManyReferences = codes "more than four references"
sentence NameTooLong = codes "a name is longer than 32 characters"
sentence NameNotPrintable = codes "a name is not printable ASCII"
sentence DescribedTwice = codes "this part is described already"
sentence TooManyParts = codes "more than 1,024 parts"
sentence BadEdit = codes "an edit reads part.slot = other, with a slot from 0 to 3"
sentence UnknownPart = codes "no such part in this drawing"

abbrev pub report : ReadError → List ℕ
report (Wrong line fault) = codes "line " ++ (decimal line ++ (codes ": " ++ sentence fault))
report Memory = codes "out of memory"
