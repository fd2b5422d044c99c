-- Each instruction's nodes have at most two edges each, and so have those of all.
use Rattle.std.proofs.Common.{◌≡◌, inl, inr, ℕ, ◌+◌, ◌*◌, ◌-◌, ◌≤◌, ◌==◌, Bool, true, false, length, length-append, List, [], ◌∷◌, ◌++◌, Some, suc, zero, slice_get, arith, ap, sym, subst}
use Rattle.std.proofs.lemmas.Option.{none-some, same_Some}
use Rattle.bv_term.specs.declared.term.TermId.{TermId}
use Rattle.bv_term.specs.WellFormed.{Table}
use Rattle.c_graph.specs.declared.graph.NodeId.{NodeId}
use Rattle.c_graph.specs.declared.graph.Node.{Node}
use Rattle.c_graph.specs.declared.graph.Operation.{Operation}
use Rattle.c_graph.specs.declared.graph.Edge.{Edge}
use Rattle.c_graph.specs.Functions.{FnFlow, Flows}
use Rattle.c_graph.specs.Parts.{error_flows, error_function}
use Rattle.c_terms.specs.declared.failing.Tests.{Tests}
use Rattle.c_terms.specs.declared.failing.Tests.TheVariants as t
use Rattle.c_typed.specs.Parts.{Parts}
use Rattle.slot_code.specs.declared.flat.Instruction.{Instruction}
use Rattle.slot_code.specs.declared.flat.Instruction.TheVariants as i
use Rattle.slot_code.specs.Values.{Link}
use Rattle.code_moves.specs.Setting.{Setting}
use Rattle.cfg_build.specs.Ranges.{range_of}
use Rattle.cfg_build.specs.Steps.{Checked, Fork, Way, checked_edges, checked_nodes}
use Rattle.cfg_build.specs.Follows.{Calls, Exit, FirstFollow, Follows, Joined, Last, PlacesFollow, Plan, StandsAt}
use Rattle.cfg_build.specs.Graphs.{FirstGraphs, GraphFollows, Opening, ProgramFollows, program_code, program_setting}
use Rattle.call_inline.specs.Layout.{AreSparse}
use Rattle.edge_count_laws.specs.Sparse.{BuiltIsSparse}

-- where a function's code stands, by the name of its type
abbrev pub of_type : (A : Type 0) → A → Type 0
of_type A x = A

abbrev pub first_link : Link
first_link = record { function = 0; entry = 0; slot = 0 }

abbrev pub Range : Type 0
Range = of_type _ (range_of first_link 0 0)

-- no more than two edges for each node
abbrev IsFew : List Node → List Edge → Type 0
IsFew nodes edges = length edges ≤ 2 * length nodes

few-by : (nodes ns : List Node) (edges es : List Edge) → nodes ≡ ns → edges ≡ es → IsFew ns es → IsFew nodes edges
few-by nodes ns edges es en ee few =
    let n : length nodes ≡ length ns = ap length en in
    let e : length edges ≡ length es = ap length ee in
    omega (arith, n, e, few)

few-joined : (ns ms : List Node) (es fs : List Edge) → IsFew ns es → IsFew ms fs → IsFew (ns ++ ms) (es ++ fs)
few-joined ns ms es fs a b =
    let n : length (ns ++ ms) ≡ length ns + length ms = length-append ns ms in
    let e : length (es ++ fs) ≡ length es + length fs = length-append es fs in
    omega (arith, n, e, a, b)

-- ---- What stands for an instruction

last-few : (x : Node) (n : ℕ) (nodes : List Node) (edges : List Edge) → Last x n nodes edges → IsFew nodes edges
last-few x n nodes edges h = few-by nodes (x ∷ []) edges [] h.0 h.1 (omega arith)

way-few : (to : NodeId) (n : ℕ) (nodes : List Node) (edges : List Edge) → Way to n nodes edges → IsFew nodes edges
way-few to n nodes edges h = few-by nodes _ edges _ h.0 h.1 (omega arith)

fork-few : (table : Table) (f : List ℕ → ℕ) (to other : NodeId) (n : ℕ) (nodes : List Node) (edges : List Edge) → Fork table f to other n nodes edges → IsFew nodes edges
fork-few table f to other n nodes edges h = few-by nodes _ edges _ h.nodes_are h.edges_are (omega arith)

tests-few : (at n : ℕ) (next : NodeId) (tests : Tests) (passed last : TermId) (ops : List Operation) → IsFew (checked_nodes at tests) (checked_edges n next tests passed last ops)
tests-few at n next t.None passed last ops = omega arith
tests-few at n next (t.One f) passed last ops = omega arith
tests-few at n next (t.Two f g) passed last ops = omega arith

checked-few : (g : Setting) (table : Table) (x : Instruction) (next : NodeId) (n : ℕ) (nodes : List Node) (edges : List Edge) → Checked g table x next n nodes edges → IsFew nodes edges
checked-few g table x next n nodes edges h =
    few-by nodes _ edges _ h.behind.nodes_are h.behind.edges_are (tests-few _ n next h.tests h.behind.passed h.behind.last h.behind.ops)

calls-few : (p : Plan) (g : Setting) (place slot : ℕ) (next : NodeId) (n : ℕ) (nodes : List Node) (edges : List Edge) → Calls p g place slot next n nodes edges → IsFew nodes edges
calls-few p g place slot next n nodes edges h = few-by nodes _ edges _ h.nodes_are h.edges_are (omega arith)

module _ (p : Plan) (g : Setting) (table : Table) where
  follows-few : (place : ℕ) (x : Instruction) (n : ℕ) (nodes : List Node) (edges : List Edge) → Follows p g table place x n nodes edges → IsFew nodes edges
  follows-few place (i.Fail kind at) n nodes edges h = last-few _ n nodes edges h
  follows-few place i.Stop n nodes edges h = last-few _ n nodes edges h
  follows-few place (i.Call at goal slot) n nodes edges h = calls-few p g goal slot _ n nodes edges h
  follows-few place (i.Return slot) n nodes edges h = way-few _ n nodes edges h
  follows-few place (i.Jump skip) n nodes edges h = way-few _ n nodes edges h
  follows-few place (i.Turn at goal) n nodes edges h = way-few _ n nodes edges h
  follows-few place (i.SkipZero slot skip) n nodes edges h = fork-few table _ _ _ n nodes edges h
  follows-few place (i.SkipEqual slot v skip) n nodes edges h = fork-few table _ _ _ n nodes edges h
  follows-few place (i.Constant slot v) n nodes edges h = checked-few g table (i.Constant slot v) _ n nodes edges h
  follows-few place (i.Read slot object) n nodes edges h = checked-few g table (i.Read slot object) _ n nodes edges h
  follows-few place (i.Element slot at object count) n nodes edges h = checked-few g table (i.Element slot at object count) _ n nodes edges h
  follows-few place (i.Locate slot at object count) n nodes edges h = checked-few g table (i.Locate slot at object count) _ n nodes edges h
  follows-few place (i.Load slot object) n nodes edges h = checked-few g table (i.Load slot object) _ n nodes edges h
  follows-few place (i.Store slot object) n nodes edges h = checked-few g table (i.Store slot object) _ n nodes edges h
  follows-few place (i.Convert slot k) n nodes edges h = checked-few g table (i.Convert slot k) _ n nodes edges h
  follows-few place (i.Negate slot k at) n nodes edges h = checked-few g table (i.Negate slot k at) _ n nodes edges h
  follows-few place (i.Complement slot k at) n nodes edges h = checked-few g table (i.Complement slot k at) _ n nodes edges h
  follows-few place (i.Not slot) n nodes edges h = checked-few g table (i.Not slot) _ n nodes edges h
  follows-few place (i.Truth slot) n nodes edges h = checked-few g table (i.Truth slot) _ n nodes edges h
  follows-few place (i.Binary slot o k at) n nodes edges h = checked-few g table (i.Binary slot o k at) _ n nodes edges h
  follows-few place (i.Update slot o k l at object) n nodes edges h = checked-few g table (i.Update slot o k l at object) _ n nodes edges h
  follows-few place (i.Change slot before by k at object) n nodes edges h = checked-few g table (i.Change slot before by k at object) _ n nodes edges h
  follows-few place (i.Draw slot k) n nodes edges h = checked-few g table (i.Draw slot k) _ n nodes edges h
  follows-few place (i.Fill object k count) n nodes edges h = checked-few g table (i.Fill object k count) _ n nodes edges h
  follows-few place (i.Begin slot object count values) n nodes edges h = checked-few g table (i.Begin slot object count values) _ n nodes edges h
  follows-few place (i.Bind slot object) n nodes edges h = checked-few g table (i.Bind slot object) _ n nodes edges h
  follows-few place (i.Take slot at from needed) n nodes edges h = checked-few g table (i.Take slot at from needed) _ n nodes edges h

  -- ---- All places

  first-few : (k n : ℕ) (nodes : List Node) (edges : List Edge) → FirstFollow p g table k n nodes edges → IsFew nodes edges
  first-few zero n nodes edges h = few-by nodes [] edges [] h.0 h.1 (omega arith)
  first-few (suc k) n nodes edges h =
      let s : StandsAt p g table (p.range.entry + k) (n + length h.nodes_first) h.nodes_second h.edges_second = h.second in
      few-by nodes (h.nodes_first ++ h.nodes_second) edges (h.edges_first ++ h.edges_second) h.nodes_are h.edges_are
      (few-joined h.nodes_first h.nodes_second h.edges_first h.edges_second (first-few k n h.nodes_first h.edges_first h.first)
      (follows-few (p.range.entry + k) s.instruction (n + length h.nodes_first) h.nodes_second h.edges_second s.follows))

  places-few : (n : ℕ) (nodes : List Node) (edges : List Edge) → PlacesFollow p g table n nodes edges → IsFew nodes edges
  places-few n nodes edges h =
      let exit : Exit p (n + length h.nodes_first) h.nodes_second h.edges_second = h.second in
      few-by nodes (h.nodes_first ++ h.nodes_second) edges (h.edges_first ++ h.edges_second) h.nodes_are h.edges_are
      (few-joined h.nodes_first h.nodes_second h.edges_first h.edges_second (first-few (p.range.end - p.range.entry) n h.nodes_first h.edges_first h.first)
      (few-by h.nodes_second _ h.edges_second _ exit.1 exit.2 (omega arith)))

  graph-few : (main : Bool) (graph : FnFlow) → GraphFollows main p g table graph → IsFew graph.nodes graph.edges
  graph-few false graph h = places-few 0 graph.nodes graph.edges h.1
  graph-few true graph h =
      let j : Joined (Opening g table) (PlacesFollow p g table) 0 graph.nodes graph.edges = h.1 in
      let opening : Opening g table 0 j.nodes_first j.edges_first = j.first in
      few-by graph.nodes (j.nodes_first ++ j.nodes_second) graph.edges (j.edges_first ++ j.edges_second) j.nodes_are j.edges_are
      (few-joined j.nodes_first j.nodes_second j.edges_first j.edges_second (few-by j.nodes_first _ j.edges_first _ opening.nodes_are opening.edges_are (omega arith))
      (places-few (0 + length j.nodes_first) j.nodes_second j.edges_second j.second))

-- ---- All functions

-- what holds of those before and of the last holds of each
of-last : (graphs : List FnFlow) (last : FnFlow) → ((k : ℕ) (f : FnFlow) → slice_get graphs k ≡ Some f → IsFew f.nodes f.edges) → IsFew last.nodes last.edges
    → (k : ℕ) (f : FnFlow) → slice_get (graphs ++ last ∷ []) k ≡ Some f → IsFew f.nodes f.edges
of-last [] last before one zero f s = subst (λ (x : FnFlow). IsFew x.nodes x.edges) (same_Some last f s) one
of-last [] last before one (suc k) f s = absurd (none-some f s)
of-last (x ∷ xs) last before one zero f s = before 0 f s
of-last (x ∷ xs) last before one (suc k) f s = of-last xs last (λ j h t. before (suc j) h t) one k f s

graphs-few : (code : List Instruction) (numbers : List ℕ) (ranges : List Range) (main : ℕ) (g : Setting) (table : Table) (n : ℕ) (graphs : List FnFlow) (exits : List NodeId)
    → FirstGraphs code numbers ranges main g table n graphs exits → (k : ℕ) (f : FnFlow) → slice_get graphs k ≡ Some f → IsFew f.nodes f.edges
graphs-few code numbers ranges main g table zero graphs exits h k f s = absurd (none-some f (subst (λ (x : List FnFlow). slice_get x k ≡ Some f) h.0 s))
graphs-few code numbers ranges main g table (suc n) graphs exits h k f s =
    let plan : Plan = record { code = code; numbers = numbers; ranges = ranges; range = h.range; exit = h.exit } in
    of-last h.graphs_before h.graph (graphs-few code numbers ranges main g table n h.graphs_before h.exits_before h.before) (graph-few plan g table (h.range.function == main) h.graph h.follows) k f
    (subst (λ (x : List FnFlow). slice_get x k ≡ Some f) h.graphs_are s)

following-is-sparse : (t : Parts) (order : List ℕ) (p : Flows) → ProgramFollows t order p → AreSparse p
following-is-sparse t order p h = λ k f s.
    let few : length f.edges ≤ 2 * length f.nodes =
    graphs-few (program_code t order) h.numbers h.ranges p.main (program_setting t order) p.terms (length h.ranges) p.graphs p.exits h.follow k f s in
    omega (arith, few)

error-is-sparse : AreSparse error_flows
error-is-sparse zero f s = subst (λ (g : FnFlow). length g.edges ≤ 30000 * length g.nodes) (same_Some error_function f s) (omega arith)
error-is-sparse (suc k) f s = absurd (none-some f s)

pub built-is-sparse : BuiltIsSparse
built-is-sparse t order p (inl follows) = following-is-sparse t order p follows
built-is-sparse t order p (inr e) = subst AreSparse (sym e) error-is-sparse
