-- The nodes and edges of one instruction.
use Rattle.std.specs.Prelude.{ℕ, ◌+◌, ◌≡◌, List, [], ◌∷◌, ◌++◌, length}
use Rattle.bv_term.specs.declared.term.TermId.{TermId}
use Rattle.bv_term.specs.WellFormed.{Table}
use Rattle.bv_term.specs.Values.{value}
use Rattle.bv_term.specs.Numbers.{complement_in}
use Rattle.c_graph.specs.declared.graph.NodeId.{NodeId}
use Rattle.c_graph.specs.declared.graph.Node.{Node}
use Rattle.c_graph.specs.declared.graph.Node.TheVariants.{Plain, Error}
use Rattle.c_graph.specs.declared.graph.Operation.{Operation}
use Rattle.c_graph.specs.declared.graph.Operation.TheVariants.{Assume}
use Rattle.c_graph.specs.declared.graph.Edge.{Edge}
use Rattle.slot_code.specs.declared.flat.Instruction.{Instruction}
use Rattle.slot_code.specs.declared.flat.Instruction.TheVariants as i
use Rattle.c_terms.specs.declared.failing.Tests.{Tests}
use Rattle.c_terms.specs.declared.failing.Tests.TheVariants.{None, One, Two}
use Rattle.code_moves.specs.Setting.{Setting}
use Rattle.code_moves.specs.Values.{failures_of}
use Rattle.code_moves.specs.Deeds.{Tells, AreDeeds, AreTests}
use Rattle.code_moves.specs.Moves.{moves_of}
use Rattle.cfg_build.specs.declared.draft.Draft.{Draft}

abbrev pub node_id : ℕ → NodeId
node_id number = record { 0 = number }

abbrev pub edge : NodeId → NodeId → List Operation → Edge
edge from to ops = record { from = from; to = to; ops = ops }

-- these nodes and edges stand behind those that were there
pub record Adds (old new : Draft) (nodes : List Node) (edges : List Edge) : Type 0 where
  pub nodes_are : new.nodes.items ≡ old.nodes.items ++ nodes
  pub edges_are : new.edges.items ≡ old.edges.items ++ edges

abbrev pub IsEmpty : Draft → Type 0
IsEmpty d = (d.nodes.items ≡ []) × (d.edges.items ≡ [])

-- the number of the next node
abbrev pub next_of : Draft → ℕ
next_of d = length d.nodes.items

-- nodes and edges more, which are of a form from the number of the next node on
pub record Built (old new : Draft) (Form : ℕ → List Node → List Edge → Type 0) : Type 0 where
  pub nodes : List Node
  pub edges : List Edge
  pub adds : Adds old new nodes edges
  pub form : Form (next_of old) nodes edges

-- ---- One way on, and two

abbrev pub Way : NodeId → ℕ → List Node → List Edge → Type 0
Way to n nodes edges = (nodes ≡ Plain ∷ []) × (edges ≡ edge (node_id n) to [] ∷ [])

-- a node from which two edges lead on: where this is 1 in the store, and where it is 0
pub record Fork (table : Table) (f : List ℕ → ℕ) (to other : NodeId) (n : ℕ) (nodes : List Node) (edges : List Edge) : Type 0 where
  pub test : TermId
  pub turned : TermId
  pub tells : Tells table test 1 f
  pub turns : Tells table turned 1 (λ store. complement_in 1 (f store))
  pub nodes_are : nodes ≡ Plain ∷ []
  pub edges_are : edges ≡ edge (node_id n) to (Assume test ∷ []) ∷ edge (node_id n) other (Assume turned ∷ []) ∷ []

-- ---- Checks, and what follows where they pass

-- the offset at which an instruction's checks fail
abbrev pub offset_of : Instruction → ℕ
offset_of (i.Constant slot v) = 0
offset_of (i.Read slot object) = 0
offset_of (i.Element slot at object count) = at
offset_of (i.Locate slot at object count) = at
offset_of (i.Load slot object) = 0
offset_of (i.Store slot object) = 0
offset_of (i.Convert slot k) = 0
offset_of (i.Negate slot k at) = at
offset_of (i.Complement slot k at) = 0
offset_of (i.Not slot) = 0
offset_of (i.Truth slot) = 0
offset_of (i.Binary slot o k at) = at
offset_of (i.Update slot o k l at object) = at
offset_of (i.Change slot before by k at object) = at
offset_of (i.Draw slot k) = 0
offset_of (i.Fill object k count) = 0
offset_of (i.Begin slot object count values) = 0
offset_of (i.Bind slot object) = 0
offset_of (i.Jump skip) = 0
offset_of (i.Turn at goal) = 0
offset_of (i.SkipZero slot skip) = 0
offset_of (i.SkipEqual slot v skip) = 0
offset_of (i.Call at goal slot) = 0
offset_of (i.Return slot) = 0
offset_of (i.Take slot at from needed) = at
offset_of (i.Fail kind at) = 0
offset_of i.Stop = 0

-- an edge more, which does these operations and then what the instruction does
pub record Goes (g : Setting) (table : Table) (old new : Draft) (x : Instruction) (from next : NodeId) (first : List Operation) : Type 0 where
  pub ops : List Operation
  pub does : AreDeeds table ops (moves_of g x)
  pub adds : Adds old new [] (edge from next (first ++ ops) ∷ [])

-- the nodes of an instruction: its own, the error of each check behind it, and one between two checks
abbrev pub checked_nodes : ℕ → Tests → List Node
checked_nodes at None = Plain ∷ []
checked_nodes at (One f) = Plain ∷ Error f.kind at ∷ []
checked_nodes at (Two f g) = Plain ∷ Error f.kind at ∷ Plain ∷ Error g.kind at ∷ []

-- the edges from a node on: to the error where a check's term is 1, and on where it is not
abbrev pub checked_edges : ℕ → NodeId → Tests → TermId → TermId → List Operation → List Edge
checked_edges n next None passed last ops = edge (node_id n) next ops ∷ []
checked_edges n next (One f) passed last ops =
    edge (node_id n) (node_id (n + 1)) (Assume f.when ∷ []) ∷ edge (node_id n) next (Assume passed ∷ ops) ∷ []
checked_edges n next (Two f g) passed last ops =
    edge (node_id n) (node_id (n + 1)) (Assume f.when ∷ []) ∷ edge (node_id n) (node_id (n + 2)) (Assume passed ∷ [])
    ∷ edge (node_id (n + 2)) (node_id (n + 3)) (Assume g.when ∷ []) ∷ edge (node_id (n + 2)) next (Assume last ∷ ops) ∷ []

-- 1 in each store where the other is not
abbrev pub IsTurned : Table → TermId → TermId → Type 0
IsTurned table t test = Tells table t 1 (λ store. complement_in 1 (value table store test))

-- each check passes where its term is not 1
abbrev pub Passes : Table → Tests → TermId → TermId → Type 0
Passes table None passed last = Unit {0}
Passes table (One f) passed last = IsTurned table passed f.when
Passes table (Two f g) passed last = IsTurned table passed f.when × IsTurned table last g.when

-- these checks, and behind them what the instruction does
pub record Behind (g : Setting) (table : Table) (x : Instruction) (next : NodeId) (tests : Tests) (n : ℕ) (nodes : List Node) (edges : List Edge) : Type 0 where
  pub passed : TermId
  pub last : TermId
  pub ops : List Operation
  pub passes : Passes table tests passed last
  pub does : AreDeeds table ops (moves_of g x)
  pub nodes_are : nodes ≡ checked_nodes (offset_of x) tests
  pub edges_are : edges ≡ checked_edges n next tests passed last ops

-- The instruction's checks are those that it has in each store, in their order, and behind them stands what it does.
pub record Checked (g : Setting) (table : Table) (x : Instruction) (next : NodeId) (n : ℕ) (nodes : List Node) (edges : List Edge) : Type 0 where
  pub tests : Tests
  pub fails : AreTests table tests (λ store. failures_of g store x)
  pub behind : Behind g table x next tests n nodes edges
