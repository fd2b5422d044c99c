-- The edges that chains become: what is counted and linked, what is tested of it, and the edges with all that follows them.
use Rattle.std.specs.Prelude.{ℕ, zero, suc, ◌+◌, ◌^◌, ◌-◌, ◌==◌, ◌&&◌, nat_lt, min, Bool, true, false, if◌then◌else◌, length, List, [], ◌∷◌, ◌++◌, Option, None, Some, replicate, slice_get, slice_set, slice_index_or}
use Rattle.c_graph.specs.declared.graph.NodeId.{NodeId}
use Rattle.c_graph.specs.declared.graph.Node.{Node}
use Rattle.c_graph.specs.declared.graph.Node.TheVariants.{Plain, Error, End, Call}
use Rattle.c_graph.specs.declared.graph.Operation.{Operation}
use Rattle.c_graph.specs.declared.graph.Edge.{Edge}
use Rattle.c_graph.specs.declared.graph.LoopAt.{LoopAt}
use Rattle.edge_chains.specs.declared.chains.Ways.{Ways}
use Rattle.edge_chains.specs.Links.{flag_at, link_at}

-- ---- Which nodes give their edges away

-- one more, so far as 32 bits hold it
abbrev pub one_more : ℕ → ℕ
one_more n = min (n + 1) (2 ^ 32 - 1)

abbrev pub no_ways : Ways
no_ways = record { ins = 0; outs = 0 }

-- one more edge leads to a node
abbrev pub lead_to : List Ways → ℕ → List Ways
lead_to ways v = let w = slice_index_or ways v no_ways in slice_set ways v (record { ins = one_more w.ins; outs = w.outs })

-- one more edge leads from a node
abbrev pub lead_from : List Ways → ℕ → List Ways
lead_from ways v = let w = slice_index_or ways v no_ways in slice_set ways v (record { ins = w.ins; outs = one_more w.outs })

-- with these edges, in their order
abbrev pub lead_all : List Ways → List Edge → List Ways
lead_all ways [] = ways
lead_all ways (e ∷ es) = lead_all (lead_from (lead_to ways e.to.0) e.from.0) es

-- how many edges lead to each of so many nodes, and from it
abbrev pub ways_of : ℕ → List Edge → List Ways
ways_of nodes edges = lead_all (replicate nodes no_ways) edges

-- of these ways, which are one in and one out
abbrev pub singles : List Ways → List Bool
singles [] = []
singles (w ∷ ws) = (w.ins == 1 && w.outs == 1) ∷ singles ws

abbrev pub single_nodes : ℕ → List Edge → List Bool
single_nodes nodes edges = singles (ways_of nodes edges)

abbrev pub clear : List Bool → NodeId → List Bool
clear flags v = slice_set flags v.0 false

abbrev pub clear_loops : List Bool → List LoopAt → List Bool
clear_loops flags [] = flags
clear_loops flags (l ∷ ls) = clear_loops (clear flags l.node) ls

-- the nodes with one way in and one way out that are neither the entry nor a loop's
abbrev pub inner_nodes : ℕ → List Edge → NodeId → List LoopAt → List Bool
inner_nodes nodes edges entry places = clear_loops (clear (single_nodes nodes edges) entry) places

-- ---- The edge of each node

-- the number, if 32 bits hold it
abbrev pub narrow : ℕ → Option ℕ
narrow n = if nat_lt n (2 ^ 32) then Some n else None

-- each of these edges, the first of them being number n, is linked to the node that it leads from
abbrev pub link_all : List (Option ℕ) → ℕ → List Edge → List (Option ℕ)
link_all links n [] = links
link_all links n (e ∷ es) = link_all (slice_set links e.from.0 (narrow n)) (n + 1) es

-- the last edge that leads from each of so many nodes
abbrev pub links_of : ℕ → List Edge → List (Option ℕ)
links_of nodes edges = link_all (replicate nodes None) 0 edges

-- ---- What is tested

-- a node that is an error does not give its edge away
abbrev pub is_kept : Node → Bool → Bool
is_kept Plain gives = true
is_kept (Error kind at) gives = if gives then false else true
is_kept End gives = true
is_kept (Call callee next) gives = true

-- of these nodes, the first of them being number n
abbrev pub kept_from : List Bool → ℕ → List Node → Bool
kept_from inner n [] = true
kept_from inner n (x ∷ xs) = if is_kept x (flag_at inner n) then kept_from inner (n + 1) xs else false

abbrev pub are_kept : List Node → List Bool → Bool
are_kept nodes inner = kept_from inner 0 nodes

-- no loop's node gives its edge away
abbrev pub are_clear : List Bool → List LoopAt → Bool
are_clear inner [] = true
are_clear inner (l ∷ ls) = if flag_at inner l.node.0 then false else are_clear inner ls

abbrev pub is_number : Option ℕ → ℕ → Bool
is_number None n = false
is_number (Some link) n = link == n

-- a node that gives its edge away is linked to the edge of this number
abbrev pub is_linked : List Bool → List (Option ℕ) → (node number : ℕ) → Bool
is_linked inner links node number = if flag_at inner node then is_number (link_at links node) number else true

-- of these edges, the first of them being number n
abbrev pub linked_from : List Bool → List (Option ℕ) → ℕ → List Edge → Bool
linked_from inner links n [] = true
linked_from inner links n (e ∷ es) = if is_linked inner links e.from.0 n then linked_from inner links (n + 1) es else false

abbrev pub are_linked : List Bool → List (Option ℕ) → List Edge → Bool
are_linked inner links edges = linked_from inner links 0 edges

-- ---- What follows an edge

abbrev pub leads_from : Option Edge → NodeId → ℕ → Option ℕ
leads_from None node number = None
leads_from (Some e) node number = if e.from.0 == node.0 then Some number else None

-- the number, if an edge of this number leads from the node
abbrev pub leading_from : List Edge → NodeId → ℕ → Option ℕ
leading_from edges node number = leads_from (slice_get edges number) node number

abbrev pub next_by : List Edge → NodeId → Option ℕ → Option ℕ
next_by edges node None = None
next_by edges node (Some number) = leading_from edges node number

-- the number of the only edge from a node that gives its edge away
abbrev pub next_of : List Edge → List Bool → List (Option ℕ) → NodeId → Option ℕ
next_of edges inner links node = if flag_at inner node.0 then next_by edges node (link_at links node.0) else None

-- the edge, if it ends at a node that is kept
abbrev pub ended : List Bool → (from to : NodeId) → List Operation → Option Edge
ended inner from to ops = if flag_at inner to.0 then None else Some (record { from = from; to = to; ops = ops })

-- what goes on with an edge's operations behind these
abbrev pub go_on : (NodeId → List Operation → Option Edge) → List Operation → Option Edge → Option Edge
go_on go ops None = None
go_on go ops (Some e) = go e.to (ops ++ e.ops)

-- what goes on along the edge of this number, or ends where there is none
abbrev pub go_along : (NodeId → List Operation → Option Edge) → List Edge → List Bool → (from to : NodeId) → List Operation → Option ℕ → Option Edge
go_along go edges inner from to ops None = ended inner from to ops
go_along go edges inner from to ops (Some k) = go_on go ops (slice_get edges k)

-- the operations so far, with all that follows this node along at most so many edges
abbrev pub follow : ℕ → List Edge → List Bool → List (Option ℕ) → (from to : NodeId) → List Operation → Option Edge
follow zero edges inner links from to ops = None
follow (suc n) edges inner links from to ops =
    go_along (λ at so_far. follow n edges inner links from at so_far) edges inner from to ops (next_of edges inner links to)

-- an edge with all that follows it up to the next node that is kept
abbrev pub followed : List Edge → List Bool → List (Option ℕ) → Edge → Option Edge
followed edges inner links e = follow (length edges) edges inner links e.from e.to e.ops

-- ---- The edges of the nodes that are kept

abbrev pub add_found : List Edge → Option Edge → Bool × List Edge
add_found found None = (false, found)
add_found found (Some joined) = (true, found ++ joined ∷ [])

-- an edge with all that follows it stands behind those that were found, if its node is kept; whether its chain ends
abbrev pub add : List Edge → List Bool → List (Option ℕ) → Edge → List Edge → Bool × List Edge
add edges inner links e found = if flag_at inner e.from.0 then (true, found) else add_found found (followed edges inner links e)

-- with each of these edges
abbrev pub add_all : List Edge → List Bool → List (Option ℕ) → List Edge → List Edge → Option (List Edge)
add_all edges inner links found [] = Some found
add_all edges inner links found (e ∷ es) =
    let p = add edges inner links e found in
    if p.0 then add_all edges inner links p.1 es else None

-- each edge of a node that is kept, with all that follows it; nothing where a chain has no end
abbrev pub followed_all : List Edge → List Bool → List (Option ℕ) → Option (List Edge)
followed_all edges inner links = add_all edges inner links [] edges

-- the joined edges, if the tables pass the tests and each chain ends
abbrev pub tested : List Node → List Edge → NodeId → List LoopAt → List Bool → List (Option ℕ) → Option (List Edge)
tested nodes edges entry places inner links =
    if flag_at inner entry.0 then None else
    if are_kept nodes inner then
    (if are_linked inner links edges then
    (if are_clear inner places then followed_all edges inner links else None)
    else None)
    else None

abbrev pub or_as_they_are : List Edge → Option (List Edge) → List Edge
or_as_they_are edges None = edges
or_as_they_are edges (Some found) = found

-- the edges of the nodes that are kept, each with all that follows it along nodes that are not
abbrev pub join_chains : List Node → List Edge → NodeId → List LoopAt → List Edge
join_chains nodes edges entry places =
    or_as_they_are edges
    (tested nodes edges entry places (inner_nodes (length nodes) edges entry places) (links_of (length nodes) edges))
