-- One more unit of a steered journal, and steered journals over tables that grow.
use Rattle.std.specs.Prelude.{ℕ, ◌<◌, ◌≡◌, false, List, [], ◌∷◌, Option, None, Some}
use Rattle.bv_term.specs.WellFormed.{Table}
use Rattle.bv_term.specs.Laws.{Extends}
use Rattle.c_graph.specs.Shape.{Flow}
use Rattle.reach_tree.specs.declared.vertex.VertexId.{VertexId}
use Rattle.cover_engine.specs.declared.unit.UnitDone.{UnitDone}
use Rattle.cover_engine.specs.declared.unit.UnitDone.TheVariants.{Expand, Refine, CoverYes, CoverNo}
use Rattle.cover_engine.specs.Unwindings.{Unwound, may_settle}
use Rattle.cover_engine.specs.Units.{Legal, after}
use Rattle.cover_engine.specs.Steering.{CoversSteered, IsHighestOpen, Steered}

-- the leaf of the last unit that is no cover unit, where that is a Refine; where all are cover units, what came before them
abbrev pub last_refined : Option VertexId → List UnitDone → Option VertexId
last_refined before [] = before
last_refined before (Expand v ∷ js) = last_refined None js
last_refined before (Refine v fs ∷ js) = last_refined (Some v) js
last_refined before (CoverYes v w ∷ js) = last_refined before js
last_refined before (CoverNo v w store ∷ js) = last_refined before js

-- the unit keeps the rule of its kind, the last unit that is no cover unit being a Refine of this leaf
abbrev pub KeepsRule : Flow → Unwound → Option VertexId → UnitDone → Type 0
KeepsRule g u refined (Expand v) = IsHighestOpen g u v × ((w : VertexId) → w.0 < v.0 → may_settle u v w ≡ false)
KeepsRule g u refined (Refine v fs) = IsHighestOpen g u v
KeepsRule g u refined (CoverYes v w) = CoversSteered g u refined v w
KeepsRule g u refined (CoverNo v w store) = CoversSteered g u refined v w

-- a legal and steered unwinding with one unit that keeps its kind's rule is steered
abbrev pub OneMoreIsSteered : Type 0
OneMoreIsSteered =
    (g : Flow) (u : Unwound) (x : UnitDone) → Legal g u → Steered g u → KeepsRule g u (last_refined None u.journal) x
    → Steered g (after g u x)

-- an unwinding stays steered where its table grows
abbrev pub GrowingTablesKeepSteering : Type 0
GrowingTablesKeepSteering =
    (g : Flow) (u : Unwound) (table : Table) → Extends u.terms table → Legal g u → Steered g u
    → Steered g (record u { terms = table })
