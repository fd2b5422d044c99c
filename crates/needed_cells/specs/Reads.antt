-- The cells that a term names, and those that operations read before they set them.
use Rattle.std.specs.Prelude.{ℕ, ◌+◌, ◌==◌, List, [], ◌∷◌, ◌++◌, zero, suc, All, Contains, if◌then◌else◌}
use Rattle.bv_term.specs.declared.term.TermId.{TermId}
use Rattle.bv_term.specs.declared.term.Term.{Term}
use Rattle.bv_term.specs.declared.term.Term.TheVariants.{Constant, Cell, Element, Add, Subtract, Multiply, Divide, Remainder, And, Or, Xor, Not, ShiftLeft, ShiftRight, ShiftSigned, Equal, Less, LessSigned, Select, ZeroExtend, SignExtend, Truncate, Bit}
use Rattle.bv_term.specs.WellFormed.{Table}
use Rattle.c_graph.specs.declared.graph.Operation.{Operation}
use Rattle.c_graph.specs.declared.graph.Operation.TheVariants.{Assume, Set, SetAt, Draw}
use Rattle.c_graph.specs.declared.graph.EdgeId.{EdgeId}
use Rattle.c_graph.specs.declared.graph.Edge.{Edge}
use Rattle.c_graph.specs.Shape.{Flow}

-- the list of a number, empty past the end
abbrev pub list_at : List (List ℕ) → ℕ → List ℕ
list_at [] k = []
list_at (x ∷ xs) zero = x
list_at (x ∷ xs) (suc k) = list_at xs k

-- n cells from a cell on
abbrev pub cells_from : ℕ → ℕ → List ℕ
cells_from first zero = []
cells_from first (suc n) = first ∷ cells_from (first + 1) n

abbrev pub two : List (List ℕ) → TermId → TermId → List ℕ
two done i j = list_at done i.0 ++ list_at done j.0

-- the cells that a term names, those of earlier terms being known
abbrev pub named_in : List (List ℕ) → Term → List ℕ
named_in done (Constant w v) = []
named_in done (Cell c) = c ∷ []
named_in done (Element first n i) = cells_from first n ++ list_at done i.0
named_in done (Add i j) = two done i j
named_in done (Subtract i j) = two done i j
named_in done (Multiply i j) = two done i j
named_in done (Divide i j) = two done i j
named_in done (Remainder i j) = two done i j
named_in done (And i j) = two done i j
named_in done (Or i j) = two done i j
named_in done (Xor i j) = two done i j
named_in done (Not i) = list_at done i.0
named_in done (ShiftLeft i j) = two done i j
named_in done (ShiftRight i j) = two done i j
named_in done (ShiftSigned i j) = two done i j
named_in done (Equal i j) = two done i j
named_in done (Less i j) = two done i j
named_in done (LessSigned i j) = two done i j
named_in done (Select i j k) = list_at done i.0 ++ two done j k
named_in done (ZeroExtend w i) = list_at done i.0
named_in done (SignExtend w i) = list_at done i.0
named_in done (Truncate w i) = list_at done i.0
named_in done (Bit k i) = list_at done i.0

abbrev pub named_after : List (List ℕ) → List Term → List (List ℕ)
named_after done [] = done
named_after done (t ∷ ts) = named_after (done ++ named_in done t ∷ []) ts

-- the cells that a term of the table names
abbrev pub names : Table → TermId → List ℕ
names table t = list_at (named_after [] table.terms) t.0

abbrev pub without : ℕ → List ℕ → List ℕ
without c [] = []
without c (x ∷ xs) = if x == c then without c xs else x ∷ without c xs

-- the cells that an operation, and then what follows it, read before they set them. Set and Draw set; SetAt sets none,
-- and reads its index, its value and its array's cells
abbrev pub needed_by : Table → Operation → List ℕ → List ℕ
needed_by table (Assume t) later = names table t ++ later
needed_by table (Set c t) later = names table t ++ without c later
needed_by table (SetAt first n i t) later = names table i ++ (names table t ++ (cells_from first n ++ later))
needed_by table (Draw c signed) later = without c later

abbrev pub needed_by_all : Table → List Operation → List ℕ → List ℕ
needed_by_all table [] later = later
needed_by_all table (op ∷ ops) later = needed_by table op (needed_by_all table ops later)

-- the operations of the edge of a number
abbrev pub operations_of : List Edge → ℕ → List Operation
operations_of [] k = []
operations_of (e ∷ es) zero = e.ops
operations_of (e ∷ es) (suc k) = operations_of es k

-- the cells that edges in order read before they set them
abbrev pub needed_along : Flow → List EdgeId → List ℕ
needed_along g [] = []
needed_along g (e ∷ es) = needed_by_all g.terms (operations_of g.edges e.0) (needed_along g es)

-- a term names only these cells
abbrev pub OnlyNames : Table → TermId → List ℕ → Type 0
OnlyNames table t cells = All (Contains cells) (names table t)
