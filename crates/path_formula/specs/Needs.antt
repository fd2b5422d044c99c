-- What is needed before operations, given what is needed behind them, and which operations give something that is needed.
use Rattle.std.specs.Prelude.{ℕ, Bool, true, cond, List, [], ◌∷◌, zero, suc}
use Rattle.bv_term.specs.WellFormed.{Table}
use Rattle.c_graph.specs.declared.graph.Operation.{Operation}
use Rattle.c_graph.specs.declared.graph.Operation.TheVariants.{Assume, Set, SetAt, Draw}
use Rattle.c_graph.specs.declared.graph.Edge.{Edge}
use Rattle.path_formula.specs.Reads.{cells_from, is_needed, some_needed, with_cells, with_read, without}

-- the operations of the edge of a number, none past the last edge
abbrev pub operations_at : List Edge → ℕ → List Operation
operations_at [] k = []
operations_at (e ∷ es) zero = e.ops
operations_at (e ∷ es) (suc k) = operations_at es k

-- whether an operation gives something that is needed. An assumption always does; a draw does, since it takes an input
abbrev pub gives : List ℕ → Operation → Bool
gives later (Assume t) = true
gives later (Set c t) = is_needed later c
gives later (SetAt first n i t) = some_needed later (cells_from first n)
gives later (Draw c signed) = true

-- what is needed before an operation. One that gives nothing that is needed reads nothing; one that stores an element
-- leaves the others, which stay needed
abbrev pub needed_by : Table → List ℕ → Operation → List ℕ
needed_by table later (Assume t) = with_read table t.0 later
needed_by table later (Set c t) = cond (is_needed later c) (with_read table t.0 (without c later)) later
needed_by table later (SetAt first n i t) =
    cond (some_needed later (cells_from first n))
    (with_read table t.0 (with_read table i.0 (with_cells later (cells_from first n)))) later
needed_by table later (Draw c signed) = without c later

-- what is needed before operations in order
abbrev pub needed_by_all : Table → List ℕ → List Operation → List ℕ
needed_by_all table later [] = later
needed_by_all table later (o ∷ os) = needed_by table (needed_by_all table later os) o

-- which of them give something that is needed
abbrev pub kept_of : Table → List ℕ → List Operation → List Bool
kept_of table later [] = []
kept_of table later (o ∷ os) = gives (needed_by_all table later os) o ∷ kept_of table later os
