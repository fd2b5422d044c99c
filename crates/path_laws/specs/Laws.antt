-- What the clauses of paths say.
use Rattle.std.specs.Prelude.{ℕ, ℤ, ◌^◌, ◌<◌, ◌≤◌, ◌≡◌, ◌==◌, ◌↔◌, Bool, true, List, [], ◌∷◌, length, suc, Some, slice_get, slice_index_or}
use Rattle.prop.specs.declared.Lit.{Lit}
use Rattle.prop.specs.Logic.{all_hold, clause_holds, lit_value}
use Rattle.bit_gates.specs.Net.{Agree, number}
use Rattle.bv_term.specs.Numbers.{bit_of}
use Rattle.c_graph.specs.declared.graph.NodeId.{NodeId}
use Rattle.c_graph.specs.declared.graph.EdgeId.{EdgeId}
use Rattle.c_graph.specs.declared.graph.Edge.{Edge}
use Rattle.c_graph.specs.Shape.{Flow, IsFlow, widths_of}
use Rattle.c_graph.specs.Steps.{IsWhole, Leads}
use Rattle.c_graph.specs.Runs.{RunsAlong}
use Rattle.path_query.specs.declared.query.Bundle.{Bundle}
use Rattle.path_query.specs.declared.query.PathQuery.{PathQuery}
use Rattle.path_formula.specs.Questions.{question_of}
use Rattle.obligation_laws.specs.Draws.{AreDrawn}
use Rattle.path_laws.specs.Steps.{Step, steps_of, HasStep, IsOf, Occurs, Spells, first_cut}
use Rattle.path_laws.specs.Values.{signs_along, values_read}

-- each edge of a path has its step, which the question has at its number
abbrev pub QuestionsAreSteps : Type 0
QuestionsAreSteps =
    (g : Flow) (path : List EdgeId) (k : ℕ) (e : EdgeId) → IsFlow g → slice_get path k ≡ Some e
    → (s : Step) × (slice_get (steps_of g path) k ≡ Some s) × (s.edge ≡ e) × HasStep (question_of g path) k s

-- a variable of clauses before a cut and of clauses behind it is one of the cut
abbrev pub SharedInCuts : Type 0
SharedInCuts =
    (g : Flow) (path : List EdgeId) (k start : ℕ) (cut : List Bundle) (m n x : ℕ) → IsFlow g
    → slice_get (question_of g path).starts k ≡ Some start → slice_get (question_of g path).cuts k ≡ Some cut
    → m < start → start ≤ n → Occurs (question_of g path).clauses m x → Occurs (question_of g path).clauses n x
    → IsOf cut x

-- from an assignment that spells a store before a step whose edge leads on from it: it is not changed at variables that were made
-- before the step, nor, where it spells at the draws what is drawn, at theirs
abbrev pub EdgesMeetSteps : Type 0
EdgesMeetSteps =
    (g : Flow) (path : List EdgeId) (k : ℕ) (s : Step) (edge : Edge) (store : List ℕ) (draws : List ℤ) (after : List ℕ) (v : ℕ → Bool)
    → IsFlow g → slice_get (steps_of g path) k ≡ Some s → slice_get g.edges s.edge.0 ≡ Some edge
    → length store ≡ length g.cells → Leads g.terms edge store draws after → Spells v store s.before
    → (w : ℕ → Bool) × Agree s.first v w
    × (AreDrawn (widths_of g.cells) v s.draws draws → (x : ℕ) → IsOf s.draws x → w x ≡ v x)
    × (all_hold w s.clauses ≡ true) × Spells w store s.before × Spells w after s.behind × AreDrawn (widths_of g.cells) w s.draws draws

-- from an assignment under which a step's clauses hold, and each store that it spells before the step
abbrev pub StepsTakeEdges : Type 0
StepsTakeEdges =
    (g : Flow) (path : List EdgeId) (k : ℕ) (s : Step) (edge : Edge) (store : List ℕ) (v : ℕ → Bool)
    → IsFlow g → slice_get (steps_of g path) k ≡ Some s → slice_get g.edges s.edge.0 ≡ Some edge
    → length store ≡ length g.cells → Spells v store s.before → all_hold v s.clauses ≡ true
    → (draws : List ℤ) × (after : List ℕ) × Leads g.terms edge store draws after × Spells v after s.behind × AreDrawn (widths_of g.cells) v s.draws draws

-- from a run along a path
abbrev pub RunsMeetQuestions : Type 0
RunsMeetQuestions =
    (g : Flow) (path : List EdgeId) (from to : NodeId) (store : List ℕ) (draws : List ℤ) (after : List ℕ)
    → IsFlow g → IsWhole (widths_of g.cells) store → RunsAlong g path from store draws to after
    → (v : ℕ → Bool) × (all_hold v (question_of g path).clauses ≡ true) × Spells v store (first_cut (question_of g path))
    × AreDrawn (widths_of g.cells) v (question_of g path).draws draws

-- edges join on from one node to another
abbrev pub Joins : Flow → List EdgeId → NodeId → NodeId → Type 0
Joins g [] from to = from ≡ to
Joins g (e ∷ path) from to = (edge : Edge) × (slice_get g.edges e.0 ≡ Some edge) × (edge.from ≡ from) × Joins g path edge.to to

-- from an assignment that satisfies the clauses of edges that join
abbrev pub QuestionsMakeRuns : Type 0
QuestionsMakeRuns =
    (g : Flow) (path : List EdgeId) (from to : NodeId) (v : ℕ → Bool)
    → IsFlow g → Joins g path from to → all_hold v (question_of g path).clauses ≡ true
    → ((store : List ℕ) × IsWhole (widths_of g.cells) store × Spells v store (first_cut (question_of g path)))
    × ((store : List ℕ) → IsWhole (widths_of g.cells) store → Spells v store (first_cut (question_of g path))
    → (draws : List ℤ) × (after : List ℕ) × RunsAlong g path from store draws to after × AreDrawn (widths_of g.cells) v (question_of g path).draws draws)

-- what a run along a path draws is what the literals of its question's draws read, where they spell it modulo powers of two
abbrev pub DrawsAreRead : Type 0
DrawsAreRead =
    (g : Flow) (path : List EdgeId) (from to : NodeId) (store : List ℕ) (draws : List ℤ) (after : List ℕ) (v : ℕ → Bool)
    → IsFlow g → RunsAlong g path from store draws to after → AreDrawn (widths_of g.cells) v (question_of g path).draws draws
    → draws ≡ values_read (widths_of g.cells) v (question_of g path).draws (signs_along g path)

-- the clauses of a question from a step's first one up to the next step's hold where the step's clauses do
abbrev pub StepsLieBetween : Type 0
StepsLieBetween =
    (q : PathQuery) (k : ℕ) (s : Step) (v : ℕ → Bool) (start n : ℕ) (c : List Lit)
    → HasStep q k s → all_hold v s.clauses ≡ true → slice_get q.starts k ≡ Some start
    → start ≤ n → n < slice_index_or q.starts (suc k) (length q.clauses) → slice_get q.clauses n ≡ Some c → clause_holds v c ≡ true

-- literals spell a number exactly where each has the value of its bit
abbrev pub NumbersAreBits : Type 0
NumbersAreBits =
    (v : ℕ → Bool) (ls : List Lit) (x : ℕ) → x < 2 ^ length ls
    → (number v ls ≡ x) ↔ ((k : ℕ) (l : Lit) → slice_get ls k ≡ Some l → lit_value v l ≡ (bit_of k x == 1))
