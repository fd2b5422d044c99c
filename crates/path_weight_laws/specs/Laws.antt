-- How many literals the clauses of a path have.
use Rattle.std.specs.Prelude.{ℕ, ◌≤◌, ◌<◌, ◌≡◌, ◌↔◌, true, List, [], length}
use Rattle.prop.specs.declared.Lit.{Lit}
use Rattle.prop.specs.declared.BlastFail.TheVariants.{Over}
use Rattle.prop.specs.Logic.{count}
use Rattle.prop.specs.Trues.{listed}
use Rattle.bit_gates.specs.Cut.{Cut}
use Rattle.bv_term.specs.WellFormed.{Table, IsTable}
use Rattle.c_graph.specs.declared.graph.EdgeId.{EdgeId}
use Rattle.c_graph.specs.Shape.{Flow, IsFlow}
use Rattle.path_formula.specs.Questions.{question_of}
use Rattle.path_weight_laws.specs.Weights.{AreFalling, IsBelow, terms_below, weight}

-- the clauses of each path's question have at most the path's weight of literals
abbrev pub PathsAreLight : Type 0
PathsAreLight = (g : Flow) (path : List EdgeId) → IsFlow g → count (question_of g path).clauses ≤ weight g path

-- a path whose clauses pass the limit of literals, n being those up to the first clause that does, has at least that weight
abbrev pub RefusedPathsAreHeavy : Type 0
RefusedPathsAreHeavy =
    (g : Flow) (path : List EdgeId) (n : ℕ) (left : List (List Lit)) → IsFlow g → Cut (Over n) [] (question_of g path).clauses left
    → (67108864 < n) × (n ≤ weight g path)

-- the terms below some of a table are those, their operands, and so on, each once
abbrev pub TermsAreBelow : Type 0
TermsAreBelow =
    (table : Table) (roots : List ℕ) → IsTable table → ((j : ℕ) → listed roots j ≡ true → j < length table.terms)
    → AreFalling (length table.terms) (terms_below table roots)
    × ((k : ℕ) → (listed (terms_below table roots) k ≡ true) ↔ IsBelow table.terms roots k)
