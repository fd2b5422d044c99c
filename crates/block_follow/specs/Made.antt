-- Which graphs are the graph of another one's blocks: what each test answers.
use Rattle.std.specs.Prelude.{ℕ, zero, suc, ◌+◌, ◌-◌, ◌==◌, ◌&&◌, ◌||◌, nat_le, nat_lt, Bool, true, false, not, if◌then◌else◌, List, [], ◌∷◌, length, replicate, Option, None, Some, is_some, slice_get, slice_index, slice_set, Vec}
use Rattle.std.specs.Global.{Global}
use Rattle.std.specs.List.{list_all}
use Rattle.bv_term.specs.declared.term.Term.{Term}
use Rattle.bv_term.specs.contracts.term.TermPartialEq.TheImpl as a_term
use Rattle.bv_term.specs.WellFormed.{Table}
use Rattle.c_graph.specs.declared.graph.NodeId.{NodeId}
use Rattle.c_graph.specs.declared.graph.EdgeId.{EdgeId}
use Rattle.c_graph.specs.declared.graph.Node.{Node}
use Rattle.c_graph.specs.declared.graph.Node.TheVariants.{End}
use Rattle.c_graph.specs.declared.graph.Cell.{Cell}
use Rattle.c_graph.specs.declared.graph.LoopAt.{LoopAt}
use Rattle.c_graph.specs.contracts.graph.NodePartialEq.TheImpl as a_node
use Rattle.c_graph.specs.contracts.graph.CellPartialEq.TheImpl as a_cell
use Rattle.c_graph.specs.contracts.graph.LoopAtPartialEq.TheImpl as a_loop
use Rattle.c_graph.specs.declared.graph.Operation.{Operation}
use Rattle.c_graph.specs.declared.graph.Operation.TheVariants.{Assume, Set, SetAt, Draw}
use Rattle.c_graph.specs.declared.graph.Edge.{Edge}
use Rattle.c_graph.specs.Shape.{Flow, outs}
use Rattle.plan_tables.specs.Tables.{flag_at}
use Rattle.block_rule.specs.Plans.{matters}
use Rattle.block_steps.specs.declared.cursor.Cursor.{Cursor}
use Rattle.block_steps.specs.declared.tests.Test.TheVariants.{Under}
use Rattle.block_steps.specs.Made as steps
use Rattle.walk_states.specs.declared.known.Known.{Known}
use Rattle.walk_states.specs.declared.state.Place.{Place}
use Rattle.walk_states.specs.Known.{plan_of}
use Rattle.block_walk.specs.Made as walk
use Rattle.plan_tests.specs.Made as plan
use Rattle.plan_tests.specs.Passes.{all_at, all_from}
use Rattle.block_places.specs.Made as places

-- ---- What a graph begins with

-- the second list begins with the first
abbrev pub begins_with : {X : Type 0} → (X → X → Bool) → (old new : List X) → Bool
begins_with same [] new = true
begins_with same (x ∷ xs) [] = false
begins_with same (x ∷ xs) (y ∷ ys) = same x y && begins_with same xs ys

abbrev pub same_loop : (old new : LoopAt) → Bool
same_loop old new = a_loop.ghosts.eq old new

abbrev pub same_loops : (old new : List LoopAt) → Bool
same_loops old new = length old == length new && begins_with same_loop old new

abbrev pub same_node : (old new : Node) → Bool
same_node old new = a_node.ghosts.eq old new

abbrev pub more_nodes : (old new : List Node) → Bool
more_nodes old new = begins_with same_node old new

abbrev pub same_cell : (old new : Cell) → Bool
same_cell old new = a_cell.ghosts.eq old new

abbrev pub more_cells : (old new : List Cell) → Bool
more_cells old new = begins_with same_cell old new

abbrev pub same_term : (old new : Term) → Bool
same_term old new = a_term.ghosts.eq old new

abbrev pub more_terms : (old new : Table) → Bool
more_terms old new = begins_with same_term old.terms new.terms

abbrev pub grows : (old new : Flow) → Bool
grows old new =
    old.entry.0 == new.entry.0 && same_loops old.loops new.loops && more_nodes old.nodes new.nodes && more_cells old.cells new.cells
    && more_terms old.terms new.terms

-- ---- All edges that lead from a node

abbrev pub is_within : (number first end : ℕ) → Bool
is_within number first end = nat_le first number && nat_lt number end

abbrev pub all_within : List EdgeId → (first end : ℕ) → Bool
all_within numbers first end = list_all (λ (id : EdgeId). is_within id.0 first end) numbers

abbrev pub are_within : Flow → (node first end : ℕ) → Bool
are_within g node first end = all_within (outs g (record { 0 = node })) first end

abbrev pub is_end_node : Option Node → (found node : ℕ) → Bool
is_end_node (Some End) found node = true
is_end_node _ found node = found == node

abbrev pub is_end : Flow → (found node : ℕ) → Bool
is_end g found node = is_end_node (slice_get g.nodes found) found node

abbrev pub is_over_edge : Flow → (node : ℕ) → Option Edge → Bool
is_over_edge g node None = true
is_over_edge g node (Some e) = is_end g e.to.0 node

abbrev pub is_over : Flow → (node number : ℕ) → Bool
is_over g node number = is_over_edge g node (slice_get g.edges number)

abbrev pub all_over : Flow → (node : ℕ) → List EdgeId → Bool
all_over g node numbers = list_all (λ (id : EdgeId). is_over g node id.0) numbers

abbrev pub are_over : Flow → (node : ℕ) → Bool
are_over g node = all_over g node (outs g (record { 0 = node }))

-- ---- How many places the blocks have

abbrev pub size_at : List ℕ → ℕ → ℕ
size_at sizes number = slice_index sizes number

-- the sizes of so many numbers from one on are no more than so many together, with the sum of those before
abbrev pub few_from : List ℕ → (most : ℕ) → (left number sum : ℕ) → Bool
few_from sizes most zero number sum = true
few_from sizes most (suc left) number sum =
    nat_le (size_at sizes number) (most - sum) && few_from sizes most left (number + 1) (sum + size_at sizes number)

abbrev pub are_few : List ℕ → (count most : ℕ) → Bool
are_few sizes count most = few_from sizes most count 0 0

-- ---- Edges that a node keeps

abbrev pub step : Table → Flow → Cursor → Operation → Option Cursor
step old new cursor (Assume t) = steps.assumes old new cursor (Under None t)
step old new cursor (Set c t) = steps.stores old new cursor None (Set c t)
step old new cursor (SetAt first n i t) = steps.stores old new cursor None (SetAt first n i t)
step old new cursor (Draw c signed) = steps.stores old new cursor None (Draw c signed)

-- what stands behind a step, if it is there
abbrev pub passed_behind : (Cursor → Option Cursor) → Option Cursor → Option Cursor
passed_behind rest None = None
passed_behind rest (Some next) = rest next

-- the place behind operations as they are
abbrev pub passed : Table → Flow → Cursor → List Operation → Option Cursor
passed old new cursor [] = Some cursor
passed old new cursor (op ∷ ops) = passed_behind (λ next. passed old new next ops) (step old new cursor op)

abbrev pub ends_at : Flow → (to : ℕ) → Option Cursor → Bool
ends_at new to None = false
ends_at new to (Some done) = is_some (steps.ends new done to)

-- the edge of this number leads from the node, does the same and leads to the same node
abbrev pub is_same_edge : (old new : Flow) → (node : ℕ) → Edge → (at : ℕ) → Bool
is_same_edge old new node e at =
    steps.leads_from new at node && ends_at new e.to.0 (passed old.terms new (record { edge_at = at; op_at = 0 }) e.ops)

-- the number behind this one, if there is one
abbrev pub behind : ℕ → Option ℕ
behind at = if at == 18446744073709551615 then None else Some (at + 1)

-- the number behind that of an edge that is kept
abbrev pub kept_edge : (old new : Flow) → Known → (node : ℕ) → Edge → (at : ℕ) → Option ℕ
kept_edge old new known node e at =
    if not (matters (plan_of known) e.to.0) then Some at else
    if (flag_at known.cuts e.to.0 && e.from.0 == node) && is_same_edge old new node e at then behind at else None

abbrev pub kept_if : (old new : Flow) → Known → (node : ℕ) → (at : ℕ) → Option Edge → Option ℕ
kept_if old new known node at None = None
kept_if old new known node at (Some e) = kept_edge old new known node e at

abbrev pub kept_at : (old new : Flow) → Known → (node : ℕ) → EdgeId → (at : ℕ) → Option ℕ
kept_at old new known node id at = kept_if old new known node at (slice_get old.edges id.0)

-- what is kept behind an edge, if that is kept
abbrev pub kept_behind : (ℕ → Option ℕ) → Option ℕ → Option ℕ
kept_behind rest None = None
kept_behind rest (Some at) = rest at

-- the number behind those of a node's edges that are kept, the first having this number
abbrev pub kept_until : (old new : Flow) → Known → (node first : ℕ) → List EdgeId → Option ℕ
kept_until old new known node at [] = Some at
kept_until old new known node at (id ∷ ids) = kept_behind (λ next. kept_until old new known node next ids) (kept_at old new known node id at)

abbrev pub keeps_until : Flow → (node first : ℕ) → Option ℕ → Bool
keeps_until new node first None = false
keeps_until new node first (Some end) = are_within new node first end

-- the edges of a node that matter stand in the other graph one behind the other
abbrev pub keeps : (old new : Flow) → Known → (node first : ℕ) → Bool
keeps old new known node first = keeps_until new node first (kept_until old new known node first (outs old (record { 0 = node })))

-- ---- Blocks

abbrev pub is_first : List Place → ℕ → Bool
is_first [] node = false
is_first (place ∷ places) node = place.node == node

abbrev pub is_inside : Known → (number : ℕ) → Place → Bool
is_inside known number place = number == 0 || not (flag_at known.cuts place.node)

-- no place but the first is a cut point
abbrev pub are_inside : Known → List Place → Bool
are_inside known places = all_at (is_inside known) 0 places

-- the node has the block of these places, which are no more than so many, from the edge of a number on, and no other edge than that
abbrev pub begins : (old new : Flow) → Known → List Place → (size node first : ℕ) → Bool
begins old new known places size node first =
    (nat_le (length places) size && is_first places node) && are_inside known places && steps.leads_from new first node
    && steps.are_sides new node first first && is_some (walk.block old new (plan_of known) places (length old.cells) (record { edge_at = first; op_at = 0 }))

abbrev pub places_among : Flow → Known → Option (List NodeId) → Option (List Place)
places_among old known None = None
places_among old known (Some nodes) = places.places_of_nodes old known nodes

-- the places of a node's members, where each has regular ways out
abbrev pub places_at : Flow → Known → List (List NodeId) → (node : ℕ) → Option (List Place)
places_at old known members node = places_among old known (slice_get members node)

abbrev pub keeps_or_begins : (old new : Flow) → Known → (size node first : ℕ) → Option (List Place) → Bool
keeps_or_begins old new known size node first None = keeps old new known node first
keeps_or_begins old new known size node first (Some places) = begins old new known places size node first

-- the number that a list has at a place, the highest past its end
abbrev pub first_or_none : Option ℕ → ℕ
first_or_none None = 18446744073709551615
first_or_none (Some first) = first

-- the first edge of a node
abbrev pub first_at : (firsts : List ℕ) → (node : ℕ) → ℕ
first_at firsts node = first_or_none (slice_get firsts node)

abbrev pub has_block : (old new : Flow) → Known → List (List NodeId) → (firsts : List ℕ) → (size node : ℕ) → Bool
has_block old new known members firsts size node =
    not (size == 0) && keeps_or_begins old new known size node (first_at firsts node) (places_at old known members node)

-- a node, if it is a cut point that matters, has a block by the rule, or the edges that it had
abbrev pub follows : (old new : Flow) → Known → List (List NodeId) → (firsts sizes : List ℕ) → (node : ℕ) → Bool
follows old new known members firsts sizes node =
    not (flag_at known.cuts node) || not (matters (plan_of known) node) || has_block old new known members firsts (size_at sizes node) node

-- the first edge of a node is noted where none was, the number of all standing for none
abbrev pub with_first : (firsts : List ℕ) → (all number from : ℕ) → List ℕ
with_first firsts all number from = if nat_lt from (length firsts) && slice_index firsts from == all then slice_set firsts from number else firsts

abbrev pub firsts_from : (all number : ℕ) → List Edge → (firsts : List ℕ) → List ℕ
firsts_from all number [] firsts = firsts
firsts_from all number (e ∷ es) firsts = firsts_from all (number + 1) es (with_first firsts all number e.from.0)

-- the first edge that leads from each node, the number of all where there is none
abbrev pub first_edges : Flow → List ℕ
first_edges g = firsts_from (length g.edges) 0 g.edges (replicate (length g.nodes) (length g.edges))

-- so many nodes follow the rule
abbrev pub nodes_follow : (old new : Flow) → Known → List (List NodeId) → (firsts sizes : List ℕ) → (count : ℕ) → Bool
nodes_follow old new known members firsts sizes count = all_from (follows old new known members firsts sizes) count 0

abbrev pub all_follow : (old new : Flow) → Known → List (List NodeId) → (sizes : List ℕ) → Bool
all_follow old new known members sizes =
    are_few sizes (length new.nodes) (length old.nodes) && nodes_follow old new known members (first_edges new) sizes (length old.nodes)

-- the entry matters, or each edge from it leads to an end or back to it
abbrev pub ends_where_nothing_matters : (old new : Flow) → Known → Bool
ends_where_nothing_matters old new known = matters (plan_of known) old.entry.0 || are_over new new.entry.0

-- how many members each node has
abbrev pub sizes_of : List (List NodeId) → List ℕ
sizes_of [] = []
sizes_of (nodes ∷ members) = length nodes ∷ sizes_of members

-- The second graph has for each cut point of the first a block by the rule, or the edges that it had, and no more. The members of each
-- node are a guess of the places of its block.
abbrev pub follows_rule : (old new : Flow) → Known → List (List NodeId) → Bool
follows_rule old new known members =
    grows old new && plan.is_plan old known && ends_where_nothing_matters old new known && all_follow old new known members (sizes_of members)

-- the members as lists
abbrev pub lists_of : List (Vec NodeId Global) → List (List NodeId)
lists_of [] = []
lists_of (nodes ∷ members) = nodes.items ∷ lists_of members
