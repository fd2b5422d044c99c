-- The question of a path: its clauses, where its steps begin, what it draws, and its cuts.
use Rattle.std.specs.Prelude.{ℕ, ◌+◌, ◌≡◌, Bool, List, [], ◌∷◌, ◌++◌, length}
use Rattle.bit_blast.specs.Held.{Held, new_of, renew_of}
use Rattle.c_graph.specs.declared.graph.EdgeId.{EdgeId}
use Rattle.c_graph.specs.Shape.{Flow}
use Rattle.path_query.specs.declared.query.PathQuery.{PathQuery}
use Rattle.path_formula.specs.declared.path.Draft.{Draft}
use Rattle.path_formula.specs.declared.path.Step.{Step}
use Rattle.path_formula.specs.Needs.{kept_of, needed_by_all, operations_at}
use Rattle.path_formula.specs.Added.{Added, added_all}
use Rattle.path_formula.specs.Paths.{bundles_of}

-- the cells that are needed before edges in order
abbrev pub needed_along : Flow → List EdgeId → List ℕ
needed_along g [] = []
needed_along g (e ∷ es) = needed_by_all g.terms (needed_along g es) (operations_at g.edges e.0)

-- a step before its clauses are made: its edge, which operations are kept, and the cells that are needed behind it
pub record Plan : Type 0 where
  pub edge : EdgeId
  pub kept : List Bool
  pub behind : List ℕ

-- an edge's step, these edges being behind it
abbrev pub plan_of : Flow → EdgeId → List EdgeId → Plan
plan_of g e es = record {
  edge = e;
  kept = kept_of g.terms (needed_along g es) (operations_at g.edges e.0);
  behind = needed_along g es;
}

-- the steps of edges in order, the last first
abbrev pub plans : Flow → List EdgeId → List Plan
plans g [] = []
plans g (e ∷ es) = plans g es ++ plan_of g e es ∷ []

abbrev pub planned : Step → Plan
planned s = record { edge = s.edge; kept = s.kept.items; behind = s.behind.items }

-- what a step adds, with a constant literal of its own
abbrev pub stepped : Flow → Plan → Held → Added
stepped g p h = added_all g.terms (renew_of h) (operations_at g.edges p.edge.0) p.kept

-- what the steps of edges in order make of what is held, n clauses being there
abbrev pub asked : Flow → ℕ → Held → List EdgeId → PathQuery
asked g n h [] = record { clauses = []; starts = []; draws = []; cuts = [] }
asked g n h (e ∷ es) =
    let p = plan_of g e es in
    let m = stepped g p h in
    let r = asked g (n + length m.clauses) m.held es in
    record {
      clauses = m.clauses ++ r.clauses;
      starts = n ∷ r.starts;
      draws = m.draws ++ r.draws;
      cuts = bundles_of m.held.cells p.behind ∷ r.cuts;
    }

-- the question of a path
abbrev pub question_of : Flow → List EdgeId → PathQuery
question_of g path =
    let h = new_of [] g.terms.cells in
    let r = asked g 0 h path in
    record {
      clauses = r.clauses;
      starts = r.starts;
      draws = r.draws;
      cuts = bundles_of h.cells (needed_along g path) ∷ r.cuts;
    }

-- a question without a step, over the cells that are needed before the path
pub record Begun (g : Flow) (needed : List ℕ) (d : Draft) : Type 0 where
  pub clauses : d.clauses ≡ []
  pub starts : d.starts.items ≡ []
  pub draws : d.draws.items ≡ []
  pub cuts : d.cuts.items ≡ bundles_of (new_of [] g.terms.cells).cells needed ∷ []
  pub bits : d.bits ≡ new_of [] g.terms.cells

-- a step was added
pub record Stepped (g : Flow) (p : Plan) (d n : Draft) : Type 0 where
  pub clauses : n.clauses ≡ d.clauses ++ (stepped g p d.bits).clauses
  pub starts : n.starts.items ≡ d.starts.items ++ length d.clauses ∷ []
  pub draws : n.draws.items ≡ d.draws.items ++ (stepped g p d.bits).draws
  pub cuts : n.cuts.items ≡ d.cuts.items ++ bundles_of (stepped g p d.bits).held.cells p.behind ∷ []
  pub bits : n.bits ≡ (stepped g p d.bits).held

-- the question that a draft makes
abbrev pub question_in : Draft → PathQuery
question_in d = record { clauses = d.clauses; starts = d.starts.items; draws = d.draws.items; cuts = d.cuts.items }
