-- A walk through a graph, step by step, and the graphs in which no node leaves a choice.
use Rattle.std.specs.Prelude.{ℕ, ℤ, ◌≡◌, zero, suc, List, [], ◌∷◌, ◌++◌, length, Option, None, Some, slice_get}
use Rattle.bv_term.specs.declared.term.TermId.{TermId}
use Rattle.bv_term.specs.declared.term.Term.TheVariants.{Not}
use Rattle.bv_term.specs.WellFormed.{Table, IsTable}
use Rattle.c_graph.specs.declared.graph.NodeId.{NodeId}
use Rattle.c_graph.specs.declared.graph.EdgeId.{EdgeId}
use Rattle.c_graph.specs.declared.graph.Edge.{Edge}
use Rattle.c_graph.specs.declared.graph.Operation.{Operation}
use Rattle.c_graph.specs.declared.graph.Operation.TheVariants.{Assume}
use Rattle.c_graph.specs.Shape.{Flow, HasWidth, outs}
use Rattle.c_graph.specs.Steps.{Moment, moment, operated_all}
use Rattle.c_graph.specs.Runs.{RunsAlong}

-- the first operation of an edge is an Assume of this term
abbrev pub BeginsWith : Flow → EdgeId → TermId → Type 0
BeginsWith g e t = (edge : Edge) × ((rest : List Operation) × (slice_get g.edges e.0 ≡ Some edge) × (edge.ops ≡ Assume t ∷ rest))

-- the second term, of width 1, is the complement of the first
abbrev pub AreComplements : Table → TermId → TermId → Type 0
AreComplements table t s = HasWidth table t 1 × (slice_get table.terms s.0 ≡ Some (Not t))

-- these edges leave no choice: there is at most one, or there are two that test a term and its complement
abbrev pub Splits : Flow → List EdgeId → Type 0
Splits g [] = Unit {0}
Splits g (e ∷ []) = Unit {0}
Splits g (e ∷ f ∷ []) = (t : TermId) × ((s : TermId) × BeginsWith g e t × BeginsWith g f s × AreComplements g.terms t s)
Splits g (e ∷ f ∷ h ∷ es) = ⊥

-- no node leaves a choice
abbrev pub IsDetermined : Flow → Type 0
IsDetermined g = (v : NodeId) → Splits g (outs g v)

-- a node, with the store and the values that are still to be drawn
abbrev pub Place : Type 0
Place = NodeId × Moment

abbrev pub arrived : NodeId → Option Moment → Option Place
arrived to None = None
arrived to (Some m) = Some (to, m)

-- where an edge leads, if it leads on
abbrev pub along : Flow → Option Edge → Moment → Option Place
along g None m = None
along g (Some edge) m = arrived edge.to (operated_all g.terms edge.ops (Some m))

abbrev pub or_else : Option Place → Option Place → Option Place
or_else None p = p
or_else (Some a) p = Some a

-- where the first of these edges leads that leads on
abbrev pub first_along : Flow → List EdgeId → Moment → Option Place
first_along g [] m = None
first_along g (e ∷ es) m = or_else (along g (slice_get g.edges e.0) m) (first_along g es m)

-- so many steps from a place
abbrev pub walk : Flow → ℕ → Option Place → Option Place
walk g n None = None
walk g zero (Some p) = Some p
walk g (suc n) (Some p) = walk g n (first_along g (outs g p.0) p.1)

-- a run along a path is the walk of as many steps, whatever values are left over
abbrev pub RunsAreWalks : Type 0
RunsAreWalks =
    (g : Flow) (path : List EdgeId) (v : NodeId) (store : List ℕ) (draws rest : List ℤ) (w : NodeId) (after : List ℕ)
    → IsTable g.terms → IsDetermined g → RunsAlong g path v store draws w after
    → walk g (length path) (Some (v, moment store (draws ++ rest))) ≡ Some (w, moment after rest)

-- a walk is a run along a path of as many edges, which draws the values that the walk takes
abbrev pub WalksAreRuns : Type 0
WalksAreRuns =
    (g : Flow) (n : ℕ) (v : NodeId) (store : List ℕ) (inputs : List ℤ) (w : NodeId) (after : List ℕ) (rest : List ℤ)
    → walk g n (Some (v, moment store inputs)) ≡ Some (w, moment after rest)
    → (path : List EdgeId) × ((draws : List ℤ) × (length path ≡ n) × (inputs ≡ draws ++ rest) × RunsAlong g path v store draws w after)
