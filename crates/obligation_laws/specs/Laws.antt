-- The clauses of an obligation are refuted exactly where it holds.
use Rattle.std.specs.Prelude.{ℕ, ℤ, ◌≡◌, ◌<◌, ◌↔◌, true, false, List, length, Some, slice_get}
use Rattle.bv_term.specs.WellFormed.{IsTable}
use Rattle.c_graph.specs.declared.graph.NodeId.{NodeId}
use Rattle.c_graph.specs.declared.graph.Edge.{Edge}
use Rattle.c_graph.specs.Shape.{Flow, IsFlow, widths_of}
use Rattle.c_graph.specs.Steps.{IsWhole, Leads}
use Rattle.c_graph.specs.Runs.{Formulas, HoldsAt, IsInductive, IsMapOf}
use Rattle.obligations.specs.Stated.{AreRefuted, edge_says, node_says, obligation_says}
use Rattle.obligations.specs.Questions.{count_of}

-- the formula of a node holds in every store, and in none
abbrev pub HoldsAlways : Flow → Formulas → NodeId → Type 0
HoldsAlways g m v = (store : List ℕ) → IsWhole (widths_of g.cells) store → HoldsAt m v store

abbrev pub HoldsNever : Flow → Formulas → NodeId → Type 0
HoldsNever g m v = (store : List ℕ) → IsWhole (widths_of g.cells) store → HoldsAt m v store → ⊥

-- it is refuted that the entry's formula fails exactly where it holds in every store
abbrev pub EntryExact : Type 0
EntryExact =
    (g : Flow) (m : Formulas) → IsFlow g → IsTable m.terms → IsMapOf g m
    → (AreRefuted (node_says false m g.entry)) ↔ (HoldsAlways g m g.entry)

-- it is refuted that a node's formula holds exactly where no store meets it
abbrev pub ErrorExact : Type 0
ErrorExact =
    (g : Flow) (m : Formulas) (v : NodeId) → IsTable m.terms → IsMapOf g m → v.0 < length g.nodes
    → (AreRefuted (node_says true m v)) ↔ (HoldsNever g m v)

-- an edge leads from stores that meet the formula at its start only to stores that meet the formula at its end
abbrev pub HoldsOn : Flow → Formulas → Edge → Type 0
HoldsOn g m edge =
    (store : List ℕ) (draws : List ℤ) (after : List ℕ)
    → IsWhole (widths_of g.cells) store → HoldsAt m edge.from store → Leads g.terms edge store draws after → HoldsAt m edge.to after

-- it is refuted that an edge fails exactly where the formulas hold on along it; operations that were left out change nothing
abbrev pub EdgeExact : Type 0
EdgeExact =
    (g : Flow) (m : Formulas) (e : ℕ) (edge : Edge) → IsFlow g → IsTable m.terms → IsMapOf g m → slice_get g.edges e ≡ Some edge
    → (AreRefuted (edge_says g m e)) ↔ (HoldsOn g m edge)

-- each obligation is refuted
abbrev pub AllRefuted : Flow → Formulas → Type 0
AllRefuted g m = (n : ℕ) → n < count_of g → AreRefuted (obligation_says g m n)

-- all obligations of a map are refuted exactly where it is inductive
abbrev pub InductiveExact : Type 0
InductiveExact = (g : Flow) (m : Formulas) → IsFlow g → IsTable m.terms → IsMapOf g m → (AllRefuted g m) ↔ (IsInductive g m)
