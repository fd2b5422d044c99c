-- The steps of a path, with what is theirs of its question, and what an assignment says of a cut.
use Rattle.std.specs.Prelude.{ℕ, ◌+◌, ◌≡◌, Bool, List, [], ◌∷◌, ◌++◌, length, suc, Some, slice_get, slice_index, slice_index_or}
use Rattle.prop.specs.declared.Lit.{Lit}
use Rattle.prop.specs.Logic.{LitsBelow}
use Rattle.bit_gates.specs.Net.{number}
use Rattle.bit_blast.specs.Held.{Held, new_of}
use Rattle.c_graph.specs.declared.graph.EdgeId.{EdgeId}
use Rattle.c_graph.specs.Shape.{Flow}
use Rattle.path_query.specs.declared.query.Bundle.{Bundle}
use Rattle.path_query.specs.declared.query.PathQuery.{PathQuery}
use Rattle.path_formula.specs.Paths.{bundles_of}
use Rattle.path_formula.specs.Questions.{needed_along, plan_of, stepped}
use Rattle.obligation_laws.specs.Draws.{BundlesBelow}

-- a step: its edge; its first variable, those before it having been made before; the cells that are needed before it and behind it,
-- with their literals; its clauses; and the literals of what it draws
pub record Step : Type 0 where
  pub edge : EdgeId
  pub first : ℕ
  pub before : List Bundle
  pub clauses : List (List Lit)
  pub draws : List Bundle
  pub behind : List Bundle

-- the step of an edge, these edges being behind it
abbrev pub step_of : Flow → Held → EdgeId → List EdgeId → Step
step_of g h e es =
    let m = stepped g (plan_of g e es) h in
    record {
      edge = e;
      first = h.next;
      before = bundles_of h.cells (needed_along g (e ∷ es));
      clauses = m.clauses;
      draws = m.draws;
      behind = bundles_of m.held.cells (needed_along g es);
    }

-- the steps of edges in order
abbrev pub steps_from : Flow → Held → List EdgeId → List Step
steps_from g h [] = []
steps_from g h (e ∷ es) = step_of g h e es ∷ steps_from g (stepped g (plan_of g e es) h).held es

-- the steps of a path
abbrev pub steps_of : Flow → List EdgeId → List Step
steps_of g path = steps_from g (new_of [] g.terms.cells) path

-- each literal's variable is below n
abbrev pub ClausesBelow : ℕ → List (List Lit) → Type 0
ClausesBelow n [] = Unit {0}
ClausesBelow n (c ∷ cs) = LitsBelow n c × ClausesBelow n cs

-- what a question has of the step of a number: the clauses before it, its own and those behind it; where it begins, and where
-- the next step does or the clauses end; its cuts; the draws before it, its own and those behind it. What stands before it is of
-- variables below its first
pub record HasStep (q : PathQuery) (k : ℕ) (s : Step) : Type 0 where
  pub earlier : List (List Lit)
  pub later : List (List Lit)
  pub clauses : q.clauses ≡ earlier ++ (s.clauses ++ later)
  pub start : slice_get q.starts k ≡ Some (length earlier)
  pub next : slice_index_or q.starts (suc k) (length q.clauses) ≡ length earlier + length s.clauses
  pub before : slice_get q.cuts k ≡ Some s.before
  pub behind : slice_get q.cuts (suc k) ≡ Some s.behind
  pub drawn : List Bundle
  pub undrawn : List Bundle
  pub draws : q.draws ≡ drawn ++ (s.draws ++ undrawn)
  pub clauses_below : ClausesBelow s.first earlier
  pub before_below : BundlesBelow s.first s.before
  pub drawn_below : BundlesBelow s.first drawn

-- the literals of each cell spell its value in the store
abbrev pub Spells : (ℕ → Bool) → List ℕ → List Bundle → Type 0
Spells v store [] = Unit {0}
Spells v store (b ∷ bs) = (number v b.bits ≡ slice_index store b.cell) × Spells v store bs

-- one of the literals has the variable
abbrev pub HasVariable : List Lit → ℕ → Type 0
HasVariable ls x = (k : ℕ) × (l : Lit) × (slice_get ls k ≡ Some l) × (l.var ≡ x)

-- the clause of the number has the variable
abbrev pub Occurs : List (List Lit) → ℕ → ℕ → Type 0
Occurs clauses n x = (c : List Lit) × (slice_get clauses n ≡ Some c) × HasVariable c x

-- one of the cells has a literal with the variable
abbrev pub IsOf : List Bundle → ℕ → Type 0
IsOf bundles x = (k : ℕ) × (b : Bundle) × (slice_get bundles k ≡ Some b) × HasVariable b.bits x

-- the cells of the first cut
abbrev pub first_cut : PathQuery → List Bundle
first_cut q = slice_index_or q.cuts 0 []
