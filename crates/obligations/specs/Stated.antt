-- The clauses of an obligation.
use Rattle.std.specs.Prelude.{ℕ, ◌≡◌, ◌<◌, Bool, true, false, List, [], ◌∷◌, ◌++◌, map, slice_index_or, zero, suc}
use Rattle.prop.specs.declared.Lit.{Lit}
use Rattle.prop.specs.declared.BlastFail.{BlastFail}
use Rattle.prop.specs.declared.BlastFail.TheVariants.{Over, Memory}
use Rattle.prop.specs.Logic.{all_hold, negated}
use Rattle.bit_gates.specs.Net.{net_clauses}
use Rattle.bv_term.specs.WellFormed.{Table}
use Rattle.bit_blast.specs.Held.{Held, blast_of, new_of, renew_of}
use Rattle.c_graph.specs.declared.graph.NodeId.{NodeId}
use Rattle.c_graph.specs.declared.graph.Edge.{Edge}
use Rattle.c_graph.specs.Shape.{Flow}
use Rattle.c_graph.specs.Runs.{Formulas}
use Rattle.path_formula.specs.Added.{added_all}
use Rattle.path_formula.specs.Needs.{kept_of, operations_at}
use Rattle.path_formula.specs.Reads.{with_read}
use Rattle.obligations.specs.declared.questions.Question.{Question}
use Rattle.obligations.specs.declared.questions.Question.TheVariants.{Entry, Edge as EdgeOf, Error as ErrorOf}
use Rattle.obligations.specs.Questions.{question_of}

-- clauses that are added, and what is held then
pub record Stated : Type 0 where
  pub clauses : List (List Lit)
  pub held : Held

-- the literals, or their complements
abbrev pub signed : Bool → List Lit → List Lit
signed true ls = ls
signed false ls = map negated ls

-- a term of width 1 holds, or fails: its literal, or the complement, is a clause
abbrev pub stated : Bool → Table → ℕ → Held → Stated
stated holds table t h =
    let m = blast_of table t h in
    record { clauses = net_clauses h.next m.defs ++ signed holds m.outs ∷ []; held = m.held }

-- the number of the formula of a node
abbrev pub formula_at : Formulas → NodeId → ℕ
formula_at m v = (slice_index_or m.at v.0 (record { 0 = 0 })).0

-- the beginning, before any clause
abbrev pub begun_over : Formulas → Held
begun_over m = new_of [] m.terms.cells

-- the formula of a node holds, or fails, in some store
abbrev pub node_says : Bool → Formulas → NodeId → List (List Lit)
node_says holds m v = (stated holds m.terms (formula_at m v) (begun_over m)).clauses

-- the ends of the edge of a number, node 0 past the last
abbrev pub from_of : List Edge → ℕ → NodeId
from_of [] k = record { 0 = 0 }
from_of (e ∷ es) zero = e.from
from_of (e ∷ es) (suc k) = from_of es k

abbrev pub to_of : List Edge → ℕ → NodeId
to_of [] k = record { 0 = 0 }
to_of (e ∷ es) zero = e.to
to_of (e ∷ es) (suc k) = to_of es k

-- which of an edge's operations give something that the formula at its end needs
abbrev pub kept_for : Flow → Formulas → ℕ → List Bool
kept_for g m e = kept_of g.terms (with_read m.terms (formula_at m (to_of g.edges e)) []) (operations_at g.edges e)

-- the formula at an edge's start holds; its kept operations are done, in a step of their own; and the formula at its end
-- fails, in a step of its own too
abbrev pub edge_says : Flow → Formulas → ℕ → List (List Lit)
edge_says g m e =
    let a = stated true m.terms (formula_at m (from_of g.edges e)) (begun_over m) in
    let b = added_all g.terms (renew_of a.held) (operations_at g.edges e) (kept_for g m e) in
    let c = stated false m.terms (formula_at m (to_of g.edges e)) (renew_of b.held) in
    (a.clauses ++ b.clauses) ++ c.clauses

-- an obligation fails
abbrev pub question_says : Flow → Formulas → Question → List (List Lit)
question_says g m Entry = node_says false m g.entry
question_says g m (EdgeOf e) = edge_says g m e.0
question_says g m (ErrorOf v) = node_says true m v

abbrev pub obligation_says : Flow → Formulas → ℕ → List (List Lit)
obligation_says g m n = question_says g m (question_of g n)

-- no assignment satisfies the clauses
abbrev pub AreRefuted : List (List Lit) → Type 0
AreRefuted cs = (v : ℕ → Bool) → all_hold v cs ≡ true → ⊥

-- a refusal for the clauses' size comes only past the limit
abbrev pub IsPast : BlastFail → Type 0
IsPast (Over n) = 67108864 < n
IsPast Memory = Unit {0}
