-- Graphs of functions that follow flat code, place by place.
use Rattle.std.specs.Prelude.{ℕ, zero, suc, ◌+◌, ◌-◌, ◌==◌, ◌≡◌, ◌<◌, ◌≤◌, nat_lt, true, if◌then◌else◌, List, [], ◌∷◌, ◌++◌, length, Option, None, Some, slice_get}
use Rattle.lv_base.specs.Integers.{residue}
use Rattle.bv_term.specs.WellFormed.{Table}
use Rattle.bv_term.specs.Numbers.{truth}
use Rattle.c_graph.specs.declared.graph.NodeId.{NodeId}
use Rattle.c_graph.specs.declared.graph.Node.{Node}
use Rattle.c_graph.specs.declared.graph.Node.TheVariants.{Error, End, Call}
use Rattle.c_graph.specs.declared.graph.Edge.{Edge}
use Rattle.slot_code.specs.declared.flat.Instruction.{Instruction}
use Rattle.slot_code.specs.declared.flat.Instruction.TheVariants as i
use Rattle.c_terms.specs.Numbers.{nonzero}
use Rattle.code_layout.specs.Layout.{slot_cell}
use Rattle.code_moves.specs.Setting.{Setting}
use Rattle.code_moves.specs.Values.{slot_value}
use Rattle.cfg_build.specs.declared.placing.Range.{Range}
use Rattle.cfg_build.specs.declared.placing.Places.{Places}
use Rattle.cfg_build.specs.Steps.{node_id, Way, Fork, Checked}
use Rattle.cfg_build.specs.Keeping.{keeps}

-- the code of a program, the number of each place's node, where each function's code stands, the function that is looked at, and the
-- node behind all its places
pub record Plan : Type 0 where
  pub code : List Instruction
  pub numbers : List ℕ
  pub ranges : List Range
  pub range : Range
  pub exit : NodeId

-- without where it lies in memory
abbrev pub plan_of : Places → Plan
plan_of p = record { code = p.whole.code.now; numbers = p.whole.numbers.now; ranges = p.whole.ranges.now; range = p.range; exit = p.exit }

-- ---- Nodes of places

abbrev pub numbered : Option ℕ → NodeId → NodeId
numbered None exit = exit
numbered (Some n) exit = node_id n

-- the node of a place of this function, or its exit
abbrev pub node_of : Plan → ℕ → NodeId
node_of p place = if nat_lt place p.range.entry then p.exit else if nat_lt place p.range.end then numbered (slice_get p.numbers place) p.exit else p.exit

-- A function's code stands before that of another, and so do its slots; it has some of both.
pub record LiesBelow (range other : Range) : Type 0 where
  pub some : range.entry < range.end
  pub before : range.end ≤ other.entry
  pub wide : range.slot < range.bound
  pub below : range.bound ≤ other.slot

-- The function's code begins at the place, it returns by the slot, and it lies below the function that calls it.
pub record Begins (ranges : List Range) (caller : Range) (function place slot : ℕ) : Type 0 where
  pub range : Range
  pub there : slice_get ranges function ≡ Some range
  pub entry : range.entry ≡ place
  pub by : range.slot ≡ slot
  pub lies : LiesBelow range caller

-- the call of a function that begins at a place and returns by a slot, which no instruction reads
pub record Calls (p : Plan) (g : Setting) (place slot : ℕ) (next : NodeId) (n : ℕ) (nodes : List Node) (edges : List Edge) : Type 0 where
  pub function : ℕ
  pub begins : Begins p.ranges p.range function place slot
  pub unread : slot_cell g.lay slot ≡ None
  pub nodes_are : nodes ≡ Call function next ∷ []
  pub edges_are : edges ≡ []

-- one node, from which no edge leads on
abbrev pub Last : Node → ℕ → List Node → List Edge → Type 0
Last node n nodes edges = (nodes ≡ node ∷ []) × (edges ≡ [])

-- ---- What stands for the instruction at a place

module _ (p : Plan) (g : Setting) (table : Table) where
  abbrev pub Follows : ℕ → Instruction → ℕ → List Node → List Edge → Type 0
  Follows place (i.Fail kind at) = Last (Error kind at)
  Follows place i.Stop = Last End
  Follows place (i.Call at goal slot) = Calls p g goal slot (node_of p (place + 1))
  Follows place (i.Return slot) = Way p.exit
  Follows place (i.Jump skip) = Way (node_of p (place + 1 + skip))
  Follows place (i.Turn at goal) = Way (node_of p goal)
  Follows place (i.SkipZero slot skip) = Fork table (λ store. nonzero (slot_value g store slot)) (node_of p (place + 1)) (node_of p (place + 1 + skip))
  Follows place (i.SkipEqual slot v skip) = Fork table (λ store. truth (slot_value g store slot == residue 64 v)) (node_of p (place + 1 + skip)) (node_of p (place + 1))
  Follows place x = Checked g table x (node_of p (place + 1))

-- the node behind all places
abbrev pub Exit : Plan → ℕ → List Node → List Edge → Type 0
Exit p n nodes edges = (node_id n ≡ p.exit) × (nodes ≡ End ∷ []) × (edges ≡ [])

-- ---- What stands for all places of a function

-- nodes and edges of one form, and those of another behind them
pub record Joined (First Second : ℕ → List Node → List Edge → Type 0) (n : ℕ) (nodes : List Node) (edges : List Edge) : Type 0 where
  pub nodes_first : List Node
  pub edges_first : List Edge
  pub nodes_second : List Node
  pub edges_second : List Edge
  pub first : First n nodes_first edges_first
  pub second : Second (n + length nodes_first) nodes_second edges_second
  pub nodes_are : nodes ≡ nodes_first ++ nodes_second
  pub edges_are : edges ≡ edges_first ++ edges_second

module _ (p : Plan) (g : Setting) (table : Table) where
  -- what stands for a place, whose node has its number
  pub record StandsAt (place n : ℕ) (nodes : List Node) (edges : List Edge) : Type 0 where
    pub instruction : Instruction
    pub there : slice_get p.code place ≡ Some instruction
    pub number : slice_get p.numbers place ≡ Some n
    pub kept : keeps p.range place instruction ≡ true
    pub follows : Follows p g table place instruction n nodes edges

  -- the first so many places of the function, one behind the other
  abbrev pub FirstFollow : ℕ → ℕ → List Node → List Edge → Type 0
  FirstFollow zero n nodes edges = (nodes ≡ []) × (edges ≡ [])
  FirstFollow (suc k) n nodes edges = Joined (FirstFollow k) (StandsAt (p.range.entry + k)) n nodes edges

  -- all its places, and its exit
  abbrev pub PlacesFollow : ℕ → List Node → List Edge → Type 0
  PlacesFollow n nodes edges = Joined (FirstFollow (p.range.end - p.range.entry)) (Exit p) n nodes edges
