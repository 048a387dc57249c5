-- Refusals: the number that names each, and its words.
use Rattle.std.specs.Prelude.{ℕ, List, codes}
use Rattle.refusals.specs.declared.refusal.Refusal.{Refusal}
use Rattle.refusals.specs.declared.refusal.Refusal.TheVariants.{Cells, Root, Slot, Memory as Short, Unsized, Sized, Ledger, Full, Empty, Holds, Token as Foreign}

-- The number that names a refusal.
abbrev pub number : Refusal → ℕ
number Cells = 1
number Root = 2
number Slot = 3
number Short = 4
number Unsized = 5
number Sized = 6
number Ledger = 7
number Full = 8
number Empty = 9
number Holds = 10
number Foreign = 11

-- What is printed of a refusal.
abbrev pub words : Refusal → List ℕ
words Cells = codes "a heap has 1 to 1024 cells"
words Root = codes "a root number is above 15"
words Slot = codes "a slot is above 3"
words Short = codes "a work memory or the freed list is shorter than the number of cells"
words Unsized = codes "the heap is not sized"
words Sized = codes "the heap is sized already"
words Ledger = codes "the ledger refuses to clear"
words Full = codes "every cell is in use"
words Empty = codes "the root is empty"
words Holds = codes "sixteen holds are open"
words Foreign = codes "the token is not open here"
