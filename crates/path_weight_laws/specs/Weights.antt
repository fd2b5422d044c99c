-- The weight of a path, which its terms, its stores into arrays and its numbers of steps and operations give.
use Rattle.std.specs.Prelude.{ℕ, ◌+◌, ◌<◌, ◌≡◌, Bool, true, false, List, [], ◌∷◌, length, sum_by, slice_index}
use Rattle.prop.specs.Trues.{listed}
use Rattle.bv_term.specs.declared.term.Term.{Term}
use Rattle.bv_term.specs.WellFormed.{Table}
use Rattle.bit_blast.specs.Cone.{falling, operands_at}
use Rattle.c_graph.specs.declared.graph.EdgeId.{EdgeId}
use Rattle.c_graph.specs.declared.graph.Operation.{Operation}
use Rattle.c_graph.specs.declared.graph.Operation.TheVariants.{Assume, Set, SetAt, Draw}
use Rattle.c_graph.specs.Shape.{Flow}
use Rattle.blast_laws.specs.Bounds.{bounds_of, store_bound}
use Rattle.path_formula.specs.Needs.{operations_at}

-- no term counts as done
abbrev pub nothing_done : ℕ → Bool
nothing_done j = false

-- the terms with these numbers and all terms below them, each once
abbrev pub terms_below : Table → List ℕ → List ℕ
terms_below table roots = falling table.terms nothing_done (length table.terms) (listed roots)

-- whether a term is below others: each set of terms that has those, and with a term its operands, has it
abbrev pub IsBelow : List Term → List ℕ → ℕ → Type 0
IsBelow ts roots k =
    (p : ℕ → Bool) → ((j : ℕ) → listed roots j ≡ true → p j ≡ true)
    → ((i j : ℕ) → p i ≡ true → listed (operands_at ts i) j ≡ true → p j ≡ true) → p k ≡ true

-- each of these numbers is below n and below all before it, so that each is there once
abbrev pub AreFalling : ℕ → List ℕ → Type 0
AreFalling n [] = Unit {0}
AreFalling n (k ∷ ks) = (k < n) × AreFalling k ks

-- the terms that an operation names
abbrev pub terms_of : Operation → List ℕ
terms_of (Assume t) = t.0 ∷ []
terms_of (Set c t) = t.0 ∷ []
terms_of (SetAt first n i t) = i.0 ∷ t.0 ∷ []
terms_of (Draw c signed) = []

-- the bound of an operation's store at an index, by the width of the cells
abbrev pub store_weight : Table → Operation → ℕ
store_weight table (Assume t) = 0
store_weight table (Set c t) = 0
store_weight table (SetAt first n i t) = store_bound n (slice_index table.cells first)
store_weight table (Draw c signed) = 0

-- the bounds of the terms below an operation, each once, that of its store, and 64
abbrev pub operation_weight : Table → Operation → ℕ
operation_weight table o = bounds_of table (terms_below table (terms_of o)) + store_weight table o + 64

-- the operations of an edge, and 64 for the step
abbrev pub step_weight : Flow → EdgeId → ℕ
step_weight g e = sum_by (operation_weight g.terms) (operations_at g.edges e.0) + 64

-- the steps, and 64 for the whole
abbrev pub weight : Flow → List EdgeId → ℕ
weight g path = sum_by (step_weight g) path + 64
