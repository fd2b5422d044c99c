-- Which copies there are, how their nodes are numbered, and which edges they have.
use Rattle.std.specs.Prelude.{ℕ, zero, suc, ◌+◌, ◌==◌, Bool, false, List, [], ◌∷◌, ◌++◌, map, min, replicate, Option, None, Some, slice_get, slice_set, if◌then◌else◌, Vec}
use Rattle.std.proofs.Common.{Global}
use Rattle.c_graph.specs.declared.graph.NodeId.{NodeId}
use Rattle.c_graph.specs.declared.graph.Node.{Node}
use Rattle.c_graph.specs.declared.graph.Node.TheVariants.{Plain, Error, End, Call}
use Rattle.c_graph.specs.declared.graph.Edge.{Edge}
use Rattle.c_graph.specs.declared.graph.LoopAt.{LoopAt}
use Rattle.c_graph.specs.Shape.{Flow}
use Rattle.c_graph.specs.Functions.{FnFlow, Flows}
use Rattle.c_graph.specs.Parts.{flow_of}
use Rattle.call_inline.specs.declared.numbers.Copied.{Copied}
use Rattle.call_inline.specs.Inlining.{nodes_in, edges_in, entry_in, loops_of, or_zero, step}
use Rattle.call_inline.specs.Sizes.{nodes_at}

-- for each function, how far each of its nodes stands behind the first of a copy
abbrev pub Offsets : Type 0
Offsets = List (List ℕ)

abbrev pub node : ℕ → NodeId
node n = record { 0 = n }

abbrev pub items_in : Option (List ℕ) → List ℕ
items_in None = []
items_in (Some offsets) = offsets

abbrev pub offset_in : Option (List ℕ) → ℕ → ℕ
offset_in offsets n = or_zero (slice_get (items_in offsets) n)

-- how far each of these nodes stands behind the first, where copies of functions have so many; the first of these stands at a distance
abbrev pub offsets_among : (ℕ → ℕ) → ℕ → List Node → List ℕ
offsets_among size at [] = []
offsets_among size at (v ∷ vs) = min at 4294967295 ∷ offsets_among size (at + nodes_at size v) vs

-- those of each function
abbrev pub all_offsets : (ℕ → ℕ) → List FnFlow → List (List ℕ)
all_offsets size [] = []
all_offsets size (f ∷ fs) = offsets_among size 0 f.nodes ∷ all_offsets size fs

-- without where they lie in memory
abbrev pub lists_of : List (Vec ℕ Global) → Offsets
lists_of [] = []
lists_of (o ∷ os) = o.items ∷ lists_of os

-- the number of a node in a copy
abbrev pub number_of : Offsets → Copied → NodeId → NodeId
number_of offsets c v = node (min (c.base + offset_in (slice_get offsets c.function) v.0) 4294967295)

abbrev pub main_copy : Flows → Copied
main_copy p = record { function = p.main; base = 0; back = None }

-- what each node of a list gives, in order; the first node being number n
abbrev pub each_from : {X : Type 0} → (ℕ → Node → List X) → ℕ → List Node → List X
each_from f n [] = []
each_from f n (x ∷ xs) = f n x ++ each_from f (n + 1) xs

-- the copy for a call that stands at this number in a copy
abbrev pub called : Offsets → Copied → ℕ → ℕ → NodeId → Copied
called offsets c n callee next = record {
  function = callee;
  base = min ((number_of offsets c (node n)).0 + 1) 4294967295;
  back = Some (number_of offsets c next);
}

-- the copies for calls in a copy
abbrev pub calls_of : Offsets → Copied → ℕ → Node → List Copied
calls_of offsets c n Plain = []
calls_of offsets c n (Error kind at) = []
calls_of offsets c n End = []
calls_of offsets c n (Call callee next) = called offsets c n callee next ∷ []

abbrev pub calls_in : Flows → Offsets → Copied → List Copied
calls_in p offsets c = each_from (calls_of offsets c) 0 (nodes_in p c.function)

abbrev pub calls_in_any : Flows → Offsets → Option Copied → List Copied
calls_in_any p offsets None = []
calls_in_any p offsets (Some c) = calls_in p offsets c

-- the copies when those for the calls of the first n were added
abbrev pub copies_after : Flows → Offsets → ℕ → List Copied
copies_after p offsets zero = main_copy p ∷ []
copies_after p offsets (suc n) = copies_after p offsets n ++ calls_in_any p offsets (slice_get (copies_after p offsets n) n)

abbrev pub is_at : Option NodeId → ℕ → Bool
is_at None n = false
is_at (Some v) n = v.0 == n

-- where a node of a copy leads without doing anything: a call to its copy, an exit to where the copy goes on
abbrev pub goal_of : Flows → Offsets → Copied → ℕ → Node → Option NodeId
goal_of p offsets c n Plain = None
goal_of p offsets c n (Error kind at) = None
goal_of p offsets c n End = if is_at (slice_get p.exits c.function) n then c.back else None
goal_of p offsets c n (Call callee next) = Some (number_of offsets (called offsets c n callee next) (entry_in p callee))

abbrev pub led : NodeId → Option NodeId → List Edge
led here None = []
led here (Some to) = step here to ∷ []

abbrev pub leads_of : Flows → Offsets → Copied → ℕ → Node → List Edge
leads_of p offsets c n x = led (number_of offsets c (node n)) (goal_of p offsets c n x)

-- an edge of a function in a copy
abbrev pub moved : Offsets → Copied → Edge → Edge
moved offsets c e = record { from = number_of offsets c e.from; to = number_of offsets c e.to; ops = e.ops }

-- the edges of a copy
abbrev pub copy_edges : Flows → Offsets → Copied → List Edge
copy_edges p offsets c = each_from (leads_of p offsets c) 0 (nodes_in p c.function) ++ map (moved offsets c) (edges_in p c.function)

abbrev pub all_edges : Flows → Offsets → List Copied → List Edge
all_edges p offsets [] = []
all_edges p offsets (c ∷ cs) = copy_edges p offsets c ++ all_edges p offsets cs

-- ---- Nodes

-- a node that leads on without doing anything is plain
abbrev pub plain_if : Option NodeId → Node → Node
plain_if None x = x
plain_if (Some to) x = Plain

-- a node of a copy, with its number
abbrev pub laid : Flows → Offsets → Copied → ℕ → Node → ℕ × Node
laid p offsets c n x = ((number_of offsets c (node n)).0, plain_if (goal_of p offsets c n x) x)

abbrev pub lays_of : Flows → Offsets → Copied → ℕ → Node → List (ℕ × Node)
lays_of p offsets c n x = laid p offsets c n x ∷ []

-- those of a copy
abbrev pub copy_lays : Flows → Offsets → Copied → List (ℕ × Node)
copy_lays p offsets c = each_from (lays_of p offsets c) 0 (nodes_in p c.function)

abbrev pub all_lays : Flows → Offsets → List Copied → List (ℕ × Node)
all_lays p offsets [] = []
all_lays p offsets (c ∷ cs) = copy_lays p offsets c ++ all_lays p offsets cs

-- nodes, when these were written at their numbers
abbrev pub written : List Node → List (ℕ × Node) → List Node
written nodes [] = nodes
written nodes (l ∷ ls) = written (slice_set nodes l.0 l.1) ls

abbrev pub copied_nodes : Flows → Offsets → List Copied → ℕ → List Node
copied_nodes p offsets copies size = written (replicate size End) (all_lays p offsets copies)

-- ---- Loops

abbrev pub loop_in : Offsets → Copied → LoopAt → LoopAt
loop_in offsets c l = record { at = l.at; node = number_of offsets c l.node }

-- those of main
abbrev pub main_loops : Flows → Offsets → List LoopAt
main_loops p offsets = map (loop_in offsets (main_copy p)) (loops_of (slice_get p.graphs p.main))

-- ---- The whole

-- the graph of these copies
abbrev pub graph_of : Flows → Offsets → List Copied → ℕ → Flow
graph_of p offsets copies size =
    flow_of (copied_nodes p offsets copies size) (all_edges p offsets copies) p.cells p.terms (number_of offsets (main_copy p) (entry_in p p.main))
    (main_loops p offsets)
