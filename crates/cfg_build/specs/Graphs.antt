-- The graphs of a program's functions that follow its flat code.
use Rattle.std.specs.Prelude.{ℕ, zero, suc, ◌+◌, ◌==◌, ◌≡◌, ◌<◌, ◌≤◌, Bool, true, false, List, [], ◌∷◌, ◌++◌, length, Option, None, Some, ℤ, pos, slice_get, All}
use Rattle.lv_base.specs.Integers.{residue, width_of}
use Rattle.bv_term.specs.WellFormed.{Table}
use Rattle.c_typed.specs.declared.tree.Object.{Object}
use Rattle.c_typed.specs.declared.tree.Owner.{Owner}
use Rattle.c_typed.specs.declared.tree.Owner.TheVariants.{Static, Local}
use Rattle.c_graph.specs.declared.graph.NodeId.{NodeId}
use Rattle.c_graph.specs.declared.graph.Node.{Node}
use Rattle.c_graph.specs.declared.graph.Node.TheVariants.{Plain}
use Rattle.c_graph.specs.declared.graph.Operation.{Operation}
use Rattle.c_graph.specs.declared.graph.Edge.{Edge}
use Rattle.c_graph.specs.declared.graph.LoopAt.{LoopAt}
use Rattle.c_graph.specs.Functions.{FnFlow, Flows}
use Rattle.slot_code.specs.declared.flat.Instruction.{Instruction}
use Rattle.slot_code.specs.declared.flat.Instruction.TheVariants as i
use Rattle.loop_turns.specs.Turning.{OnlyTurn}
use Rattle.slot_code.specs.Programs.{code_of}
use Rattle.slot_code.specs.Slots.{slots_in}
use Rattle.c_typed.specs.Parts.{Parts, tree_of}
use Rattle.c_typed.specs.Run.{main_number}
use Rattle.code_layout.specs.Layout.{elements_of, layout_of}
use Rattle.code_moves.specs.Setting.{Setting}
use Rattle.code_moves.specs.Deeds.{Deed, Sets, AreDeeds}
use Rattle.cfg_build.specs.declared.placing.Range.{Range}
use Rattle.cfg_build.specs.Steps.{node_id, edge}
use Rattle.cfg_build.specs.Follows.{Plan, node_of, Joined, PlacesFollow}
use Rattle.cfg_build.specs.Ranges.{ProgramRanges}
use Rattle.cfg_build.specs.Fitting.{AreFit, CallsEnter}

-- ---- The first values of objects

abbrev pub value_in : Option ℤ → ℤ
value_in None = pos 0
value_in (Some v) = v

-- the value that an element has before `main`: that of a static object is its initial one, where it has one
abbrev pub first_in : Owner → List ℤ → ℕ → ℤ
first_in Static values element = value_in (slice_get values element)
first_in (Local f) values element = pos 0

abbrev pub first_value : Object → ℕ → ℤ
first_value o element = first_in o.owner o.first.items element

-- the first so many elements of an object, which lie in cells of this width, get their values
abbrev pub first_sets : (cell width : ℕ) → Object → ℕ → List Deed
first_sets cell width o zero = []
first_sets cell width o (suc n) = first_sets cell width o n ++ Sets (cell + n) (λ store. residue width (first_value o n)) ∷ []

abbrev pub object_opens : Setting → Option ℕ → Option Object → List Deed
object_opens g None o = []
object_opens g (Some cell) None = []
object_opens g (Some cell) (Some o) = first_sets cell (width_of o.kind g.model) o (elements_of o)

-- of the first so many objects
abbrev pub opens : Setting → ℕ → List Deed
opens g zero = []
opens g (suc k) = opens g k ++ object_opens g (slice_get g.lay.firsts k) (slice_get g.objects k)

-- the node at which `main` begins, with an edge that gives each element its first value
pub record Opening (g : Setting) (table : Table) (n : ℕ) (nodes : List Node) (edges : List Edge) : Type 0 where
  pub ops : List Operation
  pub does : AreDeeds table ops (opens g (length g.objects))
  pub nodes_are : nodes ≡ Plain ∷ []
  pub edges_are : edges ≡ edge (node_id n) (node_id (n + 1)) ops ∷ []

-- ---- The graph of a function

-- A loop of a function: at one of its places stands a turn of the loop, all turns of the loop in the whole code go to one place, and the
-- loop's node is that of this place. No call stands at its offset.
pub record IsLoop (p : Plan) (l : LoopAt) : Type 0 where
  pub goal : ℕ
  pub place : ℕ
  pub not_before : p.range.entry ≤ place
  pub not_behind : place < p.range.end
  pub turns : slice_get p.code place ≡ Some (i.Turn l.at goal)
  pub only : OnlyTurn p.code l.at goal
  pub node : l.node ≡ node_of p goal

abbrev pub AreLoops : Plan → List LoopAt → Type 0
AreLoops p loops = All (IsLoop p) loops

-- nodes and edges of a form from number 0 on, and loops
abbrev pub IsGraph : (ℕ → List Node → List Edge → Type 0) → Plan → FnFlow → Type 0
IsGraph Form p graph = (graph.entry ≡ node_id 0) × Form 0 graph.nodes graph.edges × AreLoops p graph.loops

-- in the graph of `main` the opening stands first
abbrev pub GraphFollows : Bool → Plan → Setting → Table → FnFlow → Type 0
GraphFollows true p g table graph = IsGraph (Joined (Opening g table) (PlacesFollow p g table)) p graph
GraphFollows false p g table graph = IsGraph (PlacesFollow p g table) p graph

-- ---- The graphs of a program's functions

-- one graph more, that of the function of this number
pub record GraphBehind (code : List Instruction) (numbers : List ℕ) (ranges : List Range) (main : ℕ) (g : Setting) (table : Table) (Before : List FnFlow → List NodeId → Type 0) (k : ℕ)
    (graphs : List FnFlow) (exits : List NodeId) : Type 0 where
  pub graphs_before : List FnFlow
  pub exits_before : List NodeId
  pub range : Range
  pub graph : FnFlow
  pub exit : NodeId
  pub before : Before graphs_before exits_before
  pub there : slice_get ranges k ≡ Some range
  pub follows : GraphFollows (range.function == main) (record { code = code; numbers = numbers; ranges = ranges; range = range; exit = exit }) g table graph
  pub graphs_are : graphs ≡ graphs_before ++ graph ∷ []
  pub exits_are : exits ≡ exits_before ++ exit ∷ []

module _ (code : List Instruction) (numbers : List ℕ) (ranges : List Range) (main : ℕ) (g : Setting) (table : Table) where
  -- the graphs of the first so many functions, and the nodes at which they return
  abbrev pub FirstGraphs : ℕ → List FnFlow → List NodeId → Type 0
  FirstGraphs zero graphs exits = (graphs ≡ []) × (exits ≡ [])
  FirstGraphs (suc k) graphs exits = GraphBehind code numbers ranges main g table (FirstGraphs k) k graphs exits

-- ---- A program

abbrev pub program_code : Parts → List ℕ → List Instruction
program_code t order = (code_of (tree_of t) order).instructions

abbrev pub program_setting : Parts → List ℕ → Setting
program_setting t order = record { objects = t.objects; model = t.model; lay = layout_of t.objects t.model (program_code t order) (slots_in (program_code t order)) }

-- the graphs of all functions follow the program's code, each from its function's entry on, for some numbers of nodes; `main` is that
-- of the program; each instruction is fit, each call goes to the entry of a function, and the code is not too long
pub record ProgramFollows (t : Parts) (order : List ℕ) (p : Flows) : Type 0 where
  pub numbers : List ℕ
  pub ranges : List Range
  pub main : main_number (tree_of t).functions ≡ Some p.main
  pub stand : ProgramRanges t order ranges
  pub fit : AreFit t.model (tree_of t).objects (program_code t order)
  pub enters : CallsEnter (code_of (tree_of t) order).links (program_code t order)
  pub short : length (program_code t order) < 18446744073709551616
  pub follow : FirstGraphs (program_code t order) numbers ranges p.main (program_setting t order) p.terms (length ranges) p.graphs p.exits
  pub cells : p.cells ≡ (program_setting t order).lay.cells
