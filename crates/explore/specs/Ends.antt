-- What an exploration keeps, and the unwinding with which it ended.
use Rattle.std.specs.Prelude.{ℕ, ℤ, ◌≡◌, ◌<◌, ◌≤◌, ◌⊎◌, Bool, true, false, List, Option, Some, length, slice_get}
use Rattle.prop.specs.declared.Lit.{Lit}
use Rattle.prop.specs.declared.BlastFail.TheVariants.{Over as PastLiterals}
use Rattle.bit_gates.specs.Cut.{IsCutOff}
use Rattle.lv_base.specs.declared.fault.ErrorKind.{ErrorKind}
use Rattle.c_graph.specs.declared.graph.NodeId.{NodeId}
use Rattle.c_graph.specs.Runs.{RunsTo}
use Rattle.c_graph.specs.declared.graph.Node.{Node}
use Rattle.c_graph.specs.declared.graph.Node.TheVariants.{Error, Plain}
use Rattle.c_graph.specs.Shape.{Flow, widths_of}
use Rattle.reach_tree.specs.declared.vertex.VertexId.{VertexId}
use Rattle.reach_tree.specs.declared.vertex.Vertex.{Vertex}
use Rattle.reach_tree.specs.Trees.{vertex_at}
use Rattle.clause_learning.specs.Solve.{IsHeavy, IsSpent}
use Rattle.clause_learning.specs.declared.QueryFail.{QueryFail}
use Rattle.clause_learning.specs.declared.QueryFail.TheVariants.{Over as TooLong, OverLog as TooHeavy, Memory as NoMemory}
use Rattle.pair_query.specs.Laws.{pair_of}
use Rattle.cover_engine.specs.Unwindings.{Unwound, is_complete}
use Rattle.cover_engine.specs.Units.{Legal}
use Rattle.cover_engine.specs.Steering.{IsHighestOpen}
use Rattle.refine.specs.Refinements.{IsDriven, IsErrorLeaf, question_at}
use Rattle.refine.specs.Witnesses.{AreKnown, Known}
use Rattle.explore.specs.Standing.{AreBeside}
use Rattle.explore.specs.Settling.{MayCover}
use Rattle.explore.specs.declared.beside.Beside.{Beside}
use Rattle.explore.specs.declared.strategy.Explored.{Explored}
use Rattle.explore.specs.declared.strategy.Explored.TheVariants.{Complete, Feasible, Units, Learned, Over, OverLog}
use Rattle.explore.specs.declared.strategy.End.{End}
use Rattle.explore.specs.declared.strategy.End.TheVariants.{Complete as NoneOpen, Feasible as DoesDrive, Units as NoneLeft, Learned as DidLearn, Over as IsTooLong, OverLog as IsTooHeavy, Memory as NoRoom}

abbrev pub unwinding_of : Explored → Unwound
unwinding_of (Complete u) = u
unwinding_of (Feasible u values) = u
unwinding_of (Units u) = u
unwinding_of (Learned u log) = u
unwinding_of (Over u count) = u
unwinding_of (OverLog u log) = u

-- its terms are over the graph's cells
abbrev pub IsOverCells : Flow → Explored → Type 0
IsOverCells g e = (unwinding_of e).terms.cells ≡ widths_of g.cells

-- edges lead on from the node
abbrev pub is_plain : Option Node → Bool
is_plain (Some Plain) = true
is_plain _ = false

abbrev pub is_plain_at : Flow → Unwound → VertexId → Bool
is_plain_at g u v = is_plain (slice_get g.nodes (vertex_at u.vertices v.0).node.0)

-- the unwinding is legal and has no more units than are allowed, its terms are over the graph's cells, and what is known of them in some
-- stores is so
pub record IsReady (g : Flow) (units : ℕ) (u : Unwound) (ws : List Known) : Type 0 where
  pub legal : Legal g u
  pub few : length u.journal ≤ units
  pub cells : u.terms.cells ≡ widths_of g.cells
  pub known : AreKnown u.terms ws

-- the vertices that were looked at are kept by their nodes, of which there are as many as the graph's
pub record Follows (g : Flow) (vs : List Vertex) (b : Beside) : Type 0 where
  pub nodes : length b.last.items ≡ length g.nodes
  pub beside : AreBeside vs b.before.items b.last.items

-- a run of the graph draws exactly these values and ends at an error node
abbrev pub IsReached : Flow → List ℤ → Type 0
IsReached g values =
    (v : NodeId) × ((after : List ℕ) × ((kind : ErrorKind) × ((at : ℕ) × RunsTo g values v after × (slice_get g.nodes v.0 ≡ Some (Error kind at)))))

-- these values drive the path of the highest open leaf to its error
pub record IsFeasible (g : Flow) (u : Unwound) (values : List ℤ) : Type 0 where
  pub leaf : VertexId
  pub there : leaf.0 < length u.vertices
  pub highest : IsHighestOpen g u leaf
  pub error : IsErrorLeaf g u leaf
  pub driven : IsDriven g u leaf values
  pub reached : IsReached g values

-- the clauses of the question whether the path of the highest open leaf, which is at an error, has a run
pub record IsPathAsked (g : Flow) (u : Unwound) (clauses : List (List Lit)) : Type 0 where
  pub leaf : VertexId
  pub there : leaf.0 < length u.vertices
  pub highest : IsHighestOpen g u leaf
  pub error : IsErrorLeaf g u leaf
  pub are : clauses ≡ (question_at g u leaf).clauses

-- the clauses of the question whether a store keeps a pair apart, whose cover unit would keep its rule
pub record IsPairAsked (g : Flow) (u : Unwound) (clauses : List (List Lit)) : Type 0 where
  pub left : VertexId
  pub right : VertexId
  pub left_there : left.0 < length u.vertices
  pub right_there : right.0 < length u.vertices
  pub rule : MayCover g u left right
  pub are : clauses ≡ pair_of u.terms (vertex_at u.vertices left.0).label (vertex_at u.vertices right.0).label

-- of a question that the unwinding has, being not complete and having fewer units than are allowed
pub record IsAsked (g : Flow) (units : ℕ) (u : Unwound) (Why : List (List Lit) → Type 0) : Type 0 where
  pub incomplete : is_complete g u ≡ false
  pub more : length u.journal < units
  pub clauses : List (List Lit)
  pub asked : IsPathAsked g u clauses ⊎ IsPairAsked g u clauses
  pub why : Why clauses

-- why no further unit is made: no leaf is open; or one is and all units are made; or values drive its path to its error; or the learned
-- clauses that are allowed are spent on a question, or its clauses have too many literals, or a log over them too many pairs; or memory
-- ran out
abbrev pub IsEnd : Flow → ℕ → ℕ → Unwound → End → Type 0
IsEnd g units learn u NoneOpen = is_complete g u ≡ true
IsEnd g units learn u NoneLeft = (units ≤ length u.journal) × (is_complete g u ≡ false)
IsEnd g units learn u (DoesDrive values) = IsFeasible g u values
IsEnd g units learn u (DidLearn log) = IsAsked g units u (λ clauses. IsSpent clauses learn log)
IsEnd g units learn u (IsTooLong n) = IsAsked g units u (λ clauses. IsCutOff clauses (PastLiterals n))
IsEnd g units learn u (IsTooHeavy log) = IsAsked g units u (λ clauses. IsHeavy clauses learn 134217728 log)
IsEnd g units learn u NoRoom = Unit {0}

-- the end of a question without an answer
abbrev pub end_of : QueryFail → End
end_of (TooLong n) = IsTooLong n
end_of (TooHeavy log) = IsTooHeavy log
end_of NoMemory = NoRoom

-- how an exploration ended: its unwinding is complete within the units that are allowed, or it is not and has all of them; or values drive
-- the path of the highest open leaf to its error; or a question of the unwinding passes the learned clauses, the literals or the pairs that are
-- allowed
abbrev pub IsExplored : Flow → ℕ → ℕ → Explored → Type 0
IsExplored g units learn (Complete u) = (is_complete g u ≡ true) × (length u.journal ≤ units)
IsExplored g units learn (Feasible u values) = IsFeasible g u values
IsExplored g units learn (Units u) = (is_complete g u ≡ false) × (length u.journal ≡ units)
IsExplored g units learn (Learned u log) = IsAsked g units u (λ clauses. IsSpent clauses learn log)
IsExplored g units learn (Over u n) = IsAsked g units u (λ clauses. IsCutOff clauses (PastLiterals n))
IsExplored g units learn (OverLog u log) = IsAsked g units u (λ clauses. IsHeavy clauses learn 134217728 log)
