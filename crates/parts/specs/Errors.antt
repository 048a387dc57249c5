-- How the error of a line is that of its text.
use Rattle.std.specs.Prelude.{ℕ}
use Rattle.parts.specs.declared.fault.LineError.{LineError}
use Rattle.parts.specs.declared.fault.LineError.TheVariants.{Wrong, Memory}
use Rattle.parts.specs.declared.fault.ReadError.{ReadError}
use Rattle.parts.specs.declared.fault.ReadError.TheVariants.{Wrong as WrongLine, Memory as NoMemory}

abbrev pub at_line : ℕ → LineError → ReadError
at_line n (Wrong e) = WrongLine n e
at_line n Memory = NoMemory
