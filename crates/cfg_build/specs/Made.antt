-- Which nodes and edges instructions and places become: what is drawn so far first, then what the code takes.
use Rattle.std.specs.Prelude.{ℕ, zero, suc, ◌+◌, ◌-◌, ◌==◌, if◌then◌else◌, ℤ, List, [], ◌∷◌, ◌++◌, length, Option, None, Some, slice_get}
use Rattle.bv_term.specs.declared.term.TermId.{TermId}
use Rattle.c_typed.specs.Tree.{Function}
use Rattle.c_graph.specs.declared.graph.NodeId.{NodeId}
use Rattle.c_graph.specs.declared.graph.Node.{Node}
use Rattle.c_graph.specs.declared.graph.Node.TheVariants.{Plain, Error, End, Call}
use Rattle.c_graph.specs.declared.graph.Operation.{Operation}
use Rattle.c_graph.specs.declared.graph.Operation.TheVariants.{Assume}
use Rattle.c_graph.specs.declared.graph.Edge.{Edge}
use Rattle.c_graph.specs.declared.graph.LoopAt.{LoopAt}
use Rattle.c_graph.specs.Functions.{FnFlow}
use Rattle.slot_code.specs.declared.flat.Instruction.{Instruction}
use Rattle.slot_code.specs.declared.flat.Instruction.TheVariants as i
use Rattle.c_terms.specs.declared.words.Words.{Words}
use Rattle.c_terms.specs.declared.failing.Fails.{Fails}
use Rattle.c_terms.specs.declared.failing.Tests.{Tests}
use Rattle.c_terms.specs.declared.failing.Tests.TheVariants as tests
use Rattle.c_terms.specs.Made as term
use Rattle.code_moves.specs.Setting.{Setting, Site}
use Rattle.code_moves.specs.Made as move
use Rattle.cfg_build.specs.declared.draft.Draft.{Draft}
use Rattle.cfg_build.specs.Steps.{node_id, edge, offset_of}
use Rattle.cfg_build.specs.Follows.{Plan, node_of}
use Rattle.cfg_build.specs.Openings.{add_opening}
use Rattle.cfg_build.specs.Looped.{main_loops, loops_at}

-- ---- What is drawn so far

-- the terms, and the nodes and edges of one function
pub record Drawn : Type 0 where
  pub words : Words
  pub nodes : List Node
  pub edges : List Edge

abbrev pub drawn : Words → List Node → List Edge → Drawn
drawn words nodes edges = record { words = words; nodes = nodes; edges = edges }

abbrev pub drawn_of : Words → Draft → Drawn
drawn_of words draft = drawn words draft.nodes.items draft.edges.items

-- nothing but terms
abbrev pub blank : Words → Drawn
blank words = drawn words [] []

-- the same nodes and edges beside other terms
abbrev pub beside : Drawn → Words → Drawn
beside d words = drawn words d.nodes d.edges

-- the next node
abbrev pub next_node : Drawn → NodeId
next_node d = node_id (length d.nodes)

abbrev pub add_node : Drawn → Node → Drawn
add_node d x = drawn d.words (d.nodes ++ x ∷ []) d.edges

abbrev pub add_edge : Drawn → (from to : NodeId) → List Operation → Drawn
add_edge d from to ops = drawn d.words d.nodes (d.edges ++ edge from to ops ∷ [])

-- ---- Nodes and edges of one instruction

-- a node from which one edge leads on
abbrev pub add_way : Drawn → NodeId → Drawn
add_way d to = add_edge (add_node d Plain) (next_node d) to []

-- a node from which two edges lead on
abbrev pub add_branch : Drawn → TermId → (to other : NodeId) → Drawn
add_branch d test to other =
    let first = add_edge (add_node d Plain) (next_node d) to (Assume test ∷ []) in
    let p = term.word_not first.words test in
    add_edge (beside first p.0) (next_node d) other (Assume p.1 ∷ [])

abbrev pub add_skip_zero : Site → Drawn → ℕ → (next to : NodeId) → Drawn
add_skip_zero g d number next to =
    let p = move.slot g d.words number in
    let q = term.is_zero p.0 p.1 in
    let r = term.word_not q.0 q.1 in
    add_branch (beside d r.0) r.1 next to

abbrev pub add_skip_equal : Site → Drawn → ℕ → ℤ → (next to : NodeId) → Drawn
add_skip_equal g d number value next to =
    let p = move.slot g d.words number in
    let q = term.constant p.0 value in
    let r = term.word_equal q.0 p.1 q.1 in
    add_branch (beside d r.0) r.1 to next

-- the error of a check, and the term that is 1 where the check passes
abbrev pub add_check : Drawn → NodeId → Fails → ℕ → Drawn × TermId
add_check d from fails at =
    let failed = add_edge (add_node d (Error fails.kind at)) from (next_node d) (Assume fails.when ∷ []) in
    let p = term.word_not failed.words fails.when in
    (beside failed p.0, p.1)

-- the edge from an instruction's last node on
abbrev pub add_last : Site → Drawn → Instruction → (from next : NodeId) → List Operation → Drawn
add_last g d x from next first =
    let p = move.moves g d.words [] x in
    add_edge (beside d p.0) from next (first ++ p.1)

abbrev pub checked_once : Site → Drawn → Instruction → NodeId → Fails → Drawn
checked_once g d x next fails =
    let p = add_check (add_node d Plain) (next_node d) fails (offset_of x) in
    add_last g p.0 x (next_node d) next (Assume p.1 ∷ [])

-- the second check stands behind a node of its own
abbrev pub checked_again : Site → Drawn × TermId → Instruction → (from next : NodeId) → Fails → Drawn
checked_again g p x from next fails =
    let between = next_node p.0 in
    let q = add_check (add_edge (add_node p.0 Plain) from between (Assume p.1 ∷ [])) between fails (offset_of x) in
    add_last g q.0 x between next (Assume q.1 ∷ [])

abbrev pub checked_twice : Site → Drawn → Instruction → NodeId → (first second : Fails) → Drawn
checked_twice g d x next first second =
    checked_again g (add_check (add_node d Plain) (next_node d) first (offset_of x)) x (next_node d) next second

abbrev pub add_tested : Site → Drawn → Instruction → NodeId → Tests → Drawn
add_tested g d x next tests.None = add_last g (add_node d Plain) x (next_node d) next []
add_tested g d x next (tests.One fails) = checked_once g d x next fails
add_tested g d x next (tests.Two first second) = checked_twice g d x next first second

-- an instruction that goes on behind itself, with its checks
abbrev pub add_moves : Site → Drawn → Instruction → NodeId → Drawn
add_moves g d x next = let p = move.checks g d.words x in add_tested g (beside d p.0) x next p.1

-- ---- Nodes and edges of places

abbrev pub or_zero : Option ℕ → ℕ
or_zero None = 0
or_zero (Some n) = n

-- the function whose code has a place
abbrev pub called : List ℕ → ℕ → ℕ
called owners place = or_zero (slice_get owners place)

abbrev pub add_call : List ℕ → Drawn → ℕ → NodeId → Drawn
add_call owners d goal next = add_node d (Call (called owners goal) next)

module _ (p : Plan) (owners : List ℕ) (g : Site) (d : Drawn) (place : ℕ) where
  abbrev pub add_place : Instruction → Drawn
  add_place (i.Fail kind at) = add_node d (Error kind at)
  add_place i.Stop = add_node d End
  add_place (i.Call at goal slot) = add_call owners d goal (node_of p (place + 1))
  add_place (i.Return slot) = add_way d p.exit
  add_place (i.Jump skip) = add_way d (node_of p (place + 1 + skip))
  add_place (i.Turn at goal) = add_way d (node_of p goal)
  add_place (i.SkipZero slot skip) = add_skip_zero g d slot (node_of p (place + 1)) (node_of p (place + 1 + skip))
  add_place (i.SkipEqual slot v skip) = add_skip_equal g d slot v (node_of p (place + 1)) (node_of p (place + 1 + skip))
  add_place x = add_moves g d x (node_of p (place + 1))

abbrev pub add_found : Plan → List ℕ → Site → Drawn → ℕ → Option Instruction → Drawn
add_found p owners g d place None = d
add_found p owners g d place (Some x) = add_place p owners g d place x

-- a place more
abbrev pub add_next : Plan → List ℕ → Site → Drawn → ℕ → Drawn
add_next p owners g d place = add_found p owners g d place (slice_get p.code place)

-- the first so many places of a function
abbrev pub add_first : Plan → List ℕ → Site → Drawn → ℕ → Drawn
add_first p owners g d zero = d
add_first p owners g d (suc k) = add_next p owners g (add_first p owners g d k) (p.range.entry + k)

abbrev pub add_exit : Drawn → Drawn
add_exit d = add_node d End

-- all its places, and its exit
abbrev pub add_places : Plan → List ℕ → Site → Drawn → Drawn
add_places p owners g d = add_exit (add_first p owners g d (p.range.end - p.range.entry))

-- ---- The graph of a function, and the terms

abbrev pub flow : Drawn → List LoopAt → FnFlow
flow d loops = record { nodes = d.nodes; edges = d.edges; entry = node_id 0; loops = loops }

-- that of a function that is not `main`
abbrev pub own_graph : Plan → List ℕ → Site → Words → Words × FnFlow
own_graph p owners g w =
    let d = add_places p owners g (blank w) in
    (d.words, flow d [])

-- what stands before the places of `main`
abbrev pub opened : Setting → Words → Drawn
opened g w = let o = add_opening g w [] [] in drawn o.0 o.1 o.2

-- that of `main`, which is the function of this number, with the loops of its body, behind what stands before its places
abbrev pub main_graph : Plan → List ℕ → Site → (Words → Drawn) → List Function → ℕ → Words → Words × FnFlow
main_graph p owners g before functions main w =
    let d = add_places p owners g (before w) in
    (d.words, flow d (loops_at p (main_loops functions main)))

abbrev pub graph_of : Plan → List ℕ → Site → (Words → Drawn) → List Function → ℕ → Words → Words × FnFlow
graph_of p owners g before functions main w =
    if p.range.function == main then main_graph p owners g before functions main w else own_graph p owners g w
