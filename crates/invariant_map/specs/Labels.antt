-- What the formulas of a map say of an unwinding's labels.
use Rattle.std.specs.Prelude.{ℕ, ◌<◌, ◌≡◌, ◌&&◌, ◌↔◌, ◌⊎◌, Bool, true, not, nat_lt, List, length, All, Option, Some, None, slice_index_or}
use Rattle.bv_term.specs.declared.term.TermId.{TermId}
use Rattle.bv_term.specs.WellFormed.{Table}
use Rattle.bv_term.specs.Values.{Holds, IsStore, value}
use Rattle.c_graph.specs.declared.graph.NodeId.{NodeId}
use Rattle.c_graph.specs.Shape.{Flow, HasWidth}
use Rattle.c_graph.specs.Runs.{Formulas, HoldsAt}
use Rattle.reach_tree.specs.Trees.{vertex_at}
use Rattle.cover_engine.specs.Unwindings.{Unwound, is_covered}
use Rattle.cover_engine.specs.Units.{Meets}
use Rattle.invariant_map.specs.Copies.{IsCopy, is_marked, place_of}

-- a vertex counts where it is uncovered and at one of so many nodes
abbrev pub counts : Unwound → ℕ → ℕ → Bool
counts u nodes k = nat_lt (vertex_at u.vertices k).node.0 nodes && not (is_covered u (record { 0 = k }))

-- the conjuncts of a label are terms of the table, of width 1
abbrev pub IsLabelIn : Table → List TermId → Type 0
IsLabelIn table label = All (λ t. HasWidth table t 1) label

-- so are those of all vertices
abbrev pub AreLabels : Unwound → Type 0
AreLabels u = (k : ℕ) → IsLabelIn u.terms (vertex_at u.vertices k).label

-- the conjuncts of a label are marked
abbrev pub IsLabelMarked : List Bool → List TermId → Type 0
IsLabelMarked marks label = All (λ t. is_marked marks t.0 ≡ true) label

-- so are those of the first n vertices that count
abbrev pub AreLabelsMarked : Unwound → ℕ → List Bool → ℕ → Type 0
AreLabelsMarked u nodes marks n =
    (k : ℕ) → k < n → counts u nodes k ≡ true → IsLabelMarked marks (vertex_at u.vertices k).label

-- a conjunct of width 1 has a place, and is copied there
pub record IsPlaced (old new : Table) (places : List TermId) (t : TermId) : Type 0 where
  pub below : t.0 < length places
  pub width : HasWidth old t 1
  pub copy : IsCopy old new t.0 (place_of places t)

-- a term of width 1 that holds in a store exactly where the store meets a label over another table
pub record IsLabel (old new : Table) (label : List TermId) (t : TermId) : Type 0 where
  pub bit : HasWidth new t 1
  pub told : (store : List ℕ) → IsStore new.cells store → (Holds new store t) ↔ (Meets old store label)

-- the store meets the label of one of the first n vertices that count and are at the node
pub record SomeMet (u : Unwound) (nodes node n : ℕ) (store : List ℕ) : Type 0 where
  pub at : ℕ
  pub first : at < n
  pub counted : counts u nodes at ≡ true
  pub here : (vertex_at u.vertices at).node.0 ≡ node
  pub met : Meets u.terms store (vertex_at u.vertices at).label

-- a term of width 1 that holds exactly in those stores
pub record IsFormula (u : Unwound) (nodes node n : ℕ) (new : Table) (t : TermId) : Type 0 where
  pub bit : HasWidth new t 1
  pub told : (store : List ℕ) → IsStore new.cells store → (Holds new store t) ↔ (SomeMet u nodes node n store)

-- the formula of a node so far, none where no store meets such a label
abbrev pub IsPart : Unwound → ℕ → ℕ → ℕ → Table → Option TermId → Type 0
IsPart u nodes node n new None = (store : List ℕ) → SomeMet u nodes node n store → ⊥
IsPart u nodes node n new (Some t) = IsFormula u nodes node n new t

abbrev pub AreParts : Unwound → ℕ → Table → List (Option TermId) → Type 0
AreParts u n new parts = (v : ℕ) → v < length parts → IsPart u (length parts) v n new (slice_index_or parts v None)

-- the conjuncts of each label that counts have places
abbrev pub ArePlaced : Unwound → ℕ → Table → List TermId → Type 0
ArePlaced u nodes new places =
    (k : ℕ) → k < length u.vertices → counts u nodes k ≡ true → All (IsPlaced u.terms new places) (vertex_at u.vertices k).label

-- a term of width 1, or none
abbrev pub IsTermOrNone : Table → Option TermId → Type 0
IsTermOrNone table None = Unit {0}
IsTermOrNone table (Some t) = HasWidth table t 1

abbrev pub AreTerms : Table → List (Option TermId) → Type 0
AreTerms table parts = (v : ℕ) → IsTermOrNone table (slice_index_or parts v None)

-- the formula so far holds, if there is one, or the label does
abbrev pub EitherHolds : Table → List ℕ → Option TermId → TermId → Type 0
EitherHolds table store None label = Holds table store label
EitherHolds table store (Some formula) label = (Holds table store formula) ⊎ (Holds table store label)

-- a term of width 1 that holds where the formula does, and nowhere where there is none
abbrev pub IsFilled : Table → Table → Option TermId → TermId → Type 0
IsFilled old new None t = HasWidth new t 1 × ((store : List ℕ) → Holds new store t → ⊥)
IsFilled old new (Some formula) t = HasWidth new t 1 × ((store : List ℕ) → value new store t ≡ value old store formula)

abbrev pub AreFilled : Table → Table → List (Option TermId) → List TermId → Type 0
AreFilled old new parts ts = (v : ℕ) (d : TermId) → v < length ts → IsFilled old new (slice_index_or parts v None) (slice_index_or ts v d)

-- at each node of the graph the map's formula holds in a store exactly where the store meets the label of an uncovered
-- vertex there
abbrev pub SaysLabels : Flow → Unwound → Formulas → Type 0
SaysLabels g u m =
    (v : NodeId) (store : List ℕ) → v.0 < length g.nodes → IsStore m.terms.cells store
    → (HoldsAt m v store) ↔ (SomeMet u (length g.nodes) v.0 (length u.vertices) store)
