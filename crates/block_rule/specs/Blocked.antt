-- When a graph is the graph of another one's blocks.
use Rattle.std.specs.Prelude.{ℕ, ◌<◌, ◌≡◌, ◌==◌, ◌&&◌, ◌||◌, ◌⊎◌, Bool, true, false, not, List, [], ◌∷◌, ◌++◌, length, None, Some, slice_get, slice_index}
use Rattle.lv_base.specs.declared.fault.ErrorKind.{ErrorKind}
use Rattle.bv_term.specs.declared.term.TermId.{TermId}
use Rattle.bv_term.specs.WellFormed.{Table}
use Rattle.bv_term.specs.Values.{value}
use Rattle.c_graph.specs.declared.graph.Node.{Node}
use Rattle.c_graph.specs.declared.graph.Cell.{Cell}
use Rattle.c_graph.specs.declared.graph.LoopAt.{LoopAt}
use Rattle.c_graph.specs.declared.graph.Node.TheVariants.{Error}
use Rattle.c_graph.specs.declared.graph.Operation.{Operation}
use Rattle.c_graph.specs.declared.graph.Operation.TheVariants.{Assume, Set, SetAt, Draw}
use Rattle.c_graph.specs.declared.graph.Edge.{Edge}
use Rattle.c_graph.specs.Shape.{Flow}
use Rattle.block_rule.specs.Deeds.{Deed, Has, Leading, Sound}
use Rattle.block_rule.specs.Plans.{Place, Plan, ArePlaces, matters}
use Rattle.block_rule.specs.Rule.{block_code, guarded}

-- two stores agree on those of the first n cells that are marked
abbrev pub Agree : ℕ → (ℕ → Bool) → List ℕ → List ℕ → Type 0
Agree n marks s t = (c : ℕ) → c < n → marks c ≡ true → slice_index s c ≡ slice_index t c

-- a term has one value in stores that agree on the cells that it is said to read
abbrev pub ReadsAll : Table → ℕ → Plan → Type 0
ReadsAll table n plan = (t : TermId) (s u : List ℕ) → Agree n (plan.reads t.0) s u → value table s t ≡ value table u t

-- the cells that are read from an operation on, given those that are read behind it
abbrev pub read_before : Plan → (ℕ → Bool) → Operation → ℕ → Bool
read_before plan later (Assume t) c = plan.reads t.0 c || later c
read_before plan later (Set d t) c = plan.reads t.0 c || (later c && not (c == d))
read_before plan later (SetAt first n i t) c = plan.reads i.0 c || (plan.reads t.0 c || later c)
read_before plan later (Draw d signed) c = later c && not (c == d)

abbrev pub read_before_all : Plan → (ℕ → Bool) → List Operation → ℕ → Bool
read_before_all plan later [] = later
read_before_all plan later (op ∷ ops) = read_before plan (read_before_all plan later ops) op

-- what the edge needs is read from its node on
abbrev pub Flows : Plan → Edge → Type 0
Flows plan e = (c : ℕ) → read_before_all plan (plan.live e.to.0) e.ops c ≡ true → plan.live e.from.0 c ≡ true

-- What is said of the graph's nodes is true: the entry is reached, and so is where an edge leads from a node that is; errors are alive,
-- and so is a node from which an edge leads to one that is; the node of a loop is alive, and a cut point; what an edge needs, and what is
-- read behind it, is read from its node on.
pub record IsPlan (g : Flow) (plan : Plan) : Type 0 where
  pub entry : plan.reached g.entry.0 ≡ true
  pub reaches : (k : ℕ) (e : Edge) → slice_get g.edges k ≡ Some e → plan.reached e.from.0 ≡ true → plan.reached e.to.0 ≡ true
  pub errors : (v : ℕ) (kind : ErrorKind) (at : ℕ) → slice_get g.nodes v ≡ Some (Error kind at) → plan.alive v ≡ true
  pub lives : (k : ℕ) (e : Edge) → slice_get g.edges k ≡ Some e → plan.alive e.to.0 ≡ true → plan.alive e.from.0 ≡ true
  pub cut : plan.cuts g.entry.0 ≡ true
  pub loops : (k : ℕ) (l : LoopAt) → slice_get g.loops k ≡ Some l → (plan.cuts l.node.0 ≡ true) × (plan.alive l.node.0 ≡ true)
  pub terms : ReadsAll g.terms (length g.cells) plan
  pub flows : (k : ℕ) (e : Edge) → slice_get g.edges k ≡ Some e → matters plan e.to.0 ≡ true → Flows plan e

-- the deeds of operations as they are
abbrev pub plain_deeds : Table → List Operation → List Deed
plain_deeds table [] = []
plain_deeds table (op ∷ ops) = guarded table None op ∷ plain_deeds table ops

-- none of these places is a cut point
abbrev pub NoneCuts : Plan → List Place → Type 0
NoneCuts plan [] = Unit {0}
NoneCuts plan (p ∷ ps) = (plan.cuts p.node ≡ false) × NoneCuts plan ps

-- a block begins at the node: its places are the graph's, all others are no cut points, and the other graph has its code
pub record Begins (g h : Flow) (plan : Plan) (v : ℕ) : Type 0 where
  pub first : Place
  pub others : List Place
  pub node : first.node ≡ v
  pub places : ArePlaces g plan (length g.cells) (first ∷ others)
  pub inside : NoneCuts plan others
  pub has : Has h v [] (block_code g.terms plan first others (length g.cells))
  pub sound : Sound (length h.cells) (block_code g.terms plan first others (length g.cells))

-- the node keeps its edges to cut points that matter, and has none to other nodes that do
abbrev pub Keeps : Flow → Flow → Plan → ℕ → Type 0
Keeps g h plan v =
    (k : ℕ) (e : Edge) → slice_get g.edges k ≡ Some e → e.from.0 ≡ v → matters plan e.to.0 ≡ true
    → (plan.cuts e.to.0 ≡ true) × Leading h v (plain_deeds g.terms e.ops) e.to.0

-- The graph h has a block for each cut point of g that matters, or its edges as they were. Nodes and cells keep their numbers, and
-- others stand behind them; loops keep their nodes.
pub record IsBlocked (g h : Flow) (plan : Plan) : Type 0 where
  pub planned : IsPlan g plan
  pub nodes : (more : List Node) × (h.nodes ≡ g.nodes ++ more)
  pub cells : (more : List Cell) × (h.cells ≡ g.cells ++ more)
  pub entry : h.entry ≡ g.entry
  pub loops : h.loops ≡ g.loops
  pub blocks : (v : ℕ) → plan.cuts v ≡ true → matters plan v ≡ true → Begins g h plan v ⊎ Keeps g h plan v
