-- A heap as people see it.
use Rattle.std.specs.Prelude.{ℕ, zero, suc, ◌-◌, false, cond, List, [], ◌∷◌, ◌++◌, codes, decimal, ◌==◌, slice_index_or}
use Rattle.heap.specs.Graph.{Graph, content}
use Rattle.heap.specs.States.{State}

-- A content: its number, or a dash for an empty one.
abbrev pub mark : ℕ → List ℕ
mark x = cond (x == 0) (codes "-") (decimal x)

-- Contents after blanks.
abbrev pub marks : List ℕ → List ℕ
marks [] = []
marks (x ∷ xs) = codes " " ++ (mark x ++ marks xs)

-- A row of contents, to the end of its line.
abbrev pub row : List ℕ → List ℕ
row xs = codes ":" ++ (marks xs ++ (10 ∷ []))

-- What the four slots of a cell contain.
abbrev pub slots_of : Graph → ℕ → List ℕ
slots_of g c = content g c 0 ∷ content g c 1 ∷ content g c 2 ∷ content g c 3 ∷ []

-- A cell in use has a row: its number, and what its slots contain. A free one has none.
abbrev pub cell_row : State → ℕ → List ℕ
cell_row s c = cond (slice_index_or s.graph.used (c - 1) false) (decimal c ++ row (slots_of s.graph c)) []

-- The rows of the cells 1 to k.
abbrev pub cell_rows : State → ℕ → List ℕ
cell_rows s zero = []
cell_rows s (suc k) = cell_rows s k ++ cell_row s (suc k)

-- The rows of all cells, then what the roots contain, and the holds.
abbrev pub picture : State → List ℕ
picture s = cell_rows s s.graph.cells ++ ((codes "roots" ++ row s.graph.roots) ++ (codes "holds" ++ row s.graph.holds))
