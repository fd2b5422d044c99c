-- Whether parts make a graph, as a truth, and the graph that they make.
use Rattle.std.specs.Prelude.{ℕ, ◌+◌, ◌==◌, ◌&&◌, Bool, true, false, nat_lt, nat_le, if◌then◌else◌, List, [], ◌∷◌, length, slice_get, slice_index, Option, None, Some}
use Rattle.bv_term.specs.declared.term.TermId.{TermId}
use Rattle.bv_term.specs.WellFormed.{Table, widths}
use Rattle.c_graph.specs.declared.graph.NodeId.{NodeId}
use Rattle.c_graph.specs.declared.graph.Node.{Node}
use Rattle.c_graph.specs.declared.graph.Node.TheVariants.{Plain, Error, End, Call}
use Rattle.c_graph.specs.declared.graph.Operation.{Operation}
use Rattle.c_graph.specs.declared.graph.Operation.TheVariants.{Assume, Set, SetAt, Draw}
use Rattle.c_graph.specs.declared.graph.Edge.{Edge}
use Rattle.c_graph.specs.declared.graph.LoopAt.{LoopAt}
use Rattle.c_graph.specs.Parts.{error_flow}
use Rattle.c_graph.specs.Shape.{Flow, has_out, widths_of}
use Rattle.c_terms.specs.Fitting.{is_array}

abbrev pub is_no_call : Node → Bool
is_no_call Plain = true
is_no_call (Error kind at) = true
is_no_call End = true
is_no_call (Call callee next) = false

abbrev pub no_calls : List Node → Bool
no_calls [] = true
no_calls (x ∷ xs) = is_no_call x && no_calls xs

abbrev pub is_node : List Node → NodeId → Bool
is_node nodes v = nat_lt v.0 (length nodes)

abbrev pub is_plain_node : Option Node → Bool
is_plain_node None = false
is_plain_node (Some Plain) = true
is_plain_node (Some (Error kind at)) = false
is_plain_node (Some End) = false
is_plain_node (Some (Call callee next)) = false

abbrev pub is_plain : List Node → NodeId → Bool
is_plain nodes v = is_plain_node (slice_get nodes v.0)

-- a term of a width is there
abbrev pub has_width : Table → TermId → ℕ → Bool
has_width table t w = nat_lt t.0 (length table.terms) && slice_index (widths table) t.0 == w

-- an operation's cells and terms are there, and have the widths that it asks for
abbrev pub operation_fits : Table → Operation → Bool
operation_fits table (Assume t) = has_width table t 1
operation_fits table (Set c t) = nat_lt c (length table.cells) && has_width table t (slice_index table.cells c)
operation_fits table (SetAt first n i t) =
    is_array table.cells first n && (nat_lt i.0 (length table.terms) && has_width table t (slice_index table.cells first))
operation_fits table (Draw c signed) = nat_lt c (length table.cells) && nat_le (slice_index table.cells c) 64

abbrev pub operations_fit : Table → List Operation → Bool
operations_fit table [] = true
operations_fit table (op ∷ ops) = operation_fits table op && operations_fit table ops

-- an edge leads from a plain node to a node, and its operations fit
abbrev pub edge_fits : List Node → Table → Edge → Bool
edge_fits nodes table e = is_plain nodes e.from && (is_node nodes e.to && operations_fit table e.ops)

abbrev pub edges_fit : List Node → Table → List Edge → Bool
edges_fit nodes table [] = true
edges_fit nodes table (e ∷ es) = edge_fits nodes table e && edges_fit nodes table es

-- a plain node has an edge that leads on
abbrev pub goes_on : List Node → List Edge → NodeId → Bool
goes_on nodes edges v = if is_plain nodes v then has_out edges v else true

-- the targets of these go on, among all edges
abbrev pub targets_go_on : List Node → List Edge → List Edge → Bool
targets_go_on nodes edges [] = true
targets_go_on nodes edges (e ∷ es) = goes_on nodes edges e.to && targets_go_on nodes edges es

abbrev pub are_loops : List Node → List LoopAt → Bool
are_loops nodes [] = true
are_loops nodes (l ∷ ls) = is_node nodes l.node && are_loops nodes ls

abbrev pub same_numbers : List ℕ → List ℕ → Bool
same_numbers [] [] = true
same_numbers [] (y ∷ ys) = false
same_numbers (x ∷ xs) [] = false
same_numbers (x ∷ xs) (y ∷ ys) = x == y && same_numbers xs ys

-- the nodes, edges and cells are no more than a graph may have
abbrev pub are_few : Flow → Bool
are_few g = nat_le (length g.nodes + length g.edges) 2147483647 && nat_lt (length g.cells) 4294967296

-- whether parts whose terms are a table make a graph
abbrev pub is_flow : Flow → Bool
is_flow g =
    no_calls g.nodes && (are_few g && (is_node g.nodes g.entry && (edges_fit g.nodes g.terms g.edges
    && (goes_on g.nodes g.edges g.entry && (targets_go_on g.nodes g.edges g.edges && (are_loops g.nodes g.loops
    && same_numbers g.terms.cells (widths_of g.cells)))))))

-- the graph of these parts, or the one that stands where parts make none
abbrev pub whole : Flow → Flow
whole g = if is_flow g then g else error_flow
