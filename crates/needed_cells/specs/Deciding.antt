-- Stores that agree on cells, and what operations make of them.
use Rattle.std.specs.Prelude.{ℕ, ℤ, ◌≡◌, List, ◌++◌, length, Option, None, Some, Contains, slice_get, slice_index}
use Rattle.bv_term.specs.declared.term.TermId.{TermId}
use Rattle.bv_term.specs.WellFormed.{Table}
use Rattle.bv_term.specs.Values.{value}
use Rattle.c_graph.specs.declared.graph.NodeId.{NodeId}
use Rattle.c_graph.specs.declared.graph.EdgeId.{EdgeId}
use Rattle.c_graph.specs.declared.graph.Edge.{Edge}
use Rattle.c_graph.specs.declared.graph.Operation.{Operation}
use Rattle.c_graph.specs.Shape.{Flow, IsFlow, widths_of}
use Rattle.c_graph.specs.Steps.{IsWhole, Leads, Moment, operated, operated_all}
use Rattle.c_graph.specs.Runs.{RunsAlong}
use Rattle.needed_cells.specs.Reads.{names, needed_along, needed_by, needed_by_all}

-- two stores hold the same in each of these cells
abbrev pub AgreeOn : List ℕ → List ℕ → List ℕ → Type 0
AgreeOn cells one other = (c : ℕ) → Contains cells c → slice_index one c ≡ slice_index other c

-- the moments' stores are as long and agree on these cells, and the same values are still to be drawn
pub record MomentsAgree (cells : List ℕ) (one other : Moment) : Type 0 where
  pub long : length one.store ≡ length other.store
  pub agree : AgreeOn cells one.store other.store
  pub inputs : one.inputs ≡ other.inputs

-- both go on, to moments that are alike, or neither does
abbrev pub GoAlike : List ℕ → Option Moment → Option Moment → Type 0
GoAlike cells None None = Unit {0}
GoAlike cells None (Some n) = ⊥
GoAlike cells (Some m) None = ⊥
GoAlike cells (Some m) (Some n) = MomentsAgree cells m n

-- a term has one value in stores that agree on the cells that it names
abbrev pub NamedCellsDecide : Type 0
NamedCellsDecide =
    (table : Table) (t : TermId) (one other : List ℕ) → AgreeOn (names table t) one other → value table one t ≡ value table other t

-- from moments that are alike on what an operation, and then what follows it, needs, it goes on alike on what follows needs
abbrev pub NeededByDecides : Type 0
NeededByDecides =
    (table : Table) (op : Operation) (later : List ℕ) (one other : Moment)
    → MomentsAgree (needed_by table op later) one other → GoAlike later (operated table op one) (operated table op other)

-- and operations in order
abbrev pub NeededCellsDecide : Type 0
NeededCellsDecide =
    (table : Table) (ops : List Operation) (later : List ℕ) (one other : Moment)
    → MomentsAgree (needed_by_all table ops later) one other
    → GoAlike later (operated_all table ops (Some one)) (operated_all table ops (Some other))

-- A run along edges from a whole store has one from each whole store that agrees with it on what the edges, and then those behind them,
-- need: it draws the same values, and ends in a store that agrees on what those behind need.
abbrev pub NeededAlongDecides : Type 0
NeededAlongDecides =
    (g : Flow) (path behind : List EdgeId) (v w : NodeId) (one other : List ℕ) (draws : List ℤ) (after : List ℕ)
    → IsWhole (widths_of g.cells) one → IsWhole (widths_of g.cells) other → AgreeOn (needed_along g (path ++ behind)) one other
    → RunsAlong g path v one draws w after
    → (end : List ℕ) × RunsAlong g path v other draws w end × AgreeOn (needed_along g behind) after end

-- an edge of a graph leads from whole stores to whole stores
abbrev pub EdgesKeepWhole : Type 0
EdgesKeepWhole =
    (g : Flow) (e : EdgeId) (edge : Edge) (store : List ℕ) (draws : List ℤ) (after : List ℕ)
    → IsFlow g → slice_get g.edges e.0 ≡ Some edge → IsWhole (widths_of g.cells) store → Leads g.terms edge store draws after
    → IsWhole (widths_of g.cells) after
