-- Which plan a graph has: the same steps in the same order, over lists.
use Rattle.std.specs.Prelude.{ℕ, zero, suc, ◌+◌, ◌-◌, ◌/◌, ◌%◌, ◌^◌, ◌==◌, ◌&&◌, ◌||◌, Bool, true, false, not, nat_lt, nat_le, if◌then◌else◌, List, [], ◌∷◌, ◌++◌, length, take, replicate, slice_get, slice_set, slice_index, Option, None, Some, bit_and, bit_or, is_none, is_some, unwrap_or}
use Rattle.bv_term.specs.declared.term.TermId.{TermId}
use Rattle.bv_term.specs.declared.term.Term.{Term}
use Rattle.bv_term.specs.declared.term.Term.TheVariants.{Not}
use Rattle.bv_term.specs.WellFormed.{Table}
use Rattle.c_graph.specs.declared.graph.NodeId.{NodeId}
use Rattle.c_graph.specs.declared.graph.EdgeId.{EdgeId}
use Rattle.c_graph.specs.declared.graph.Node.{Node}
use Rattle.c_graph.specs.declared.graph.Node.TheVariants.{Plain, Error, End, Call}
use Rattle.c_graph.specs.declared.graph.Edge.{Edge}
use Rattle.c_graph.specs.declared.graph.LoopAt.{LoopAt}
use Rattle.c_graph.specs.declared.graph.Operation.{Operation}
use Rattle.c_graph.specs.declared.graph.Operation.TheVariants.{Assume, Set, SetAt, Draw}
use Rattle.c_graph.specs.Shape.{Flow, outs}
use Rattle.plan_tables.specs.Tables.{UnitTable, LiveRows, flag_at, units_of}
use Rattle.plan_tables.specs.Made.{flags_new, flags_set, links_new, link_at, links_set, counts_new, count_at, counts_add, counts_take, unit_of, unit_count, is_single, live_unknown, live_empty, live_load, live_join, live_grows}
use Rattle.block_plan.specs.declared.alive.Backward.{Backward}
use Rattle.block_plan.specs.declared.blocks.Came.{Came}
use Rattle.block_plan.specs.declared.blocks.Pending.{Pending}
use Rattle.block_plan.specs.declared.regular.Way.{Way}
use Rattle.block_plan.specs.declared.regular.Ways.{Ways}
use Rattle.block_plan.specs.declared.regular.Ways.TheVariants.{Kept, One, Two}
use Rattle.block_plan.specs.Plans.{Plan, WayChains}

-- ---- Nodes

abbrev pub is_error_node : Option Node → Bool
is_error_node None = false
is_error_node (Some Plain) = false
is_error_node (Some (Error kind at)) = true
is_error_node (Some End) = false
is_error_node (Some (Call function next)) = false

-- whether a run ends with an error at a node
abbrev pub is_error : Flow → NodeId → Bool
is_error g v = is_error_node (slice_get g.nodes v.0)

abbrev pub is_plain_node : Option Node → Bool
is_plain_node None = false
is_plain_node (Some Plain) = true
is_plain_node (Some (Error kind at)) = false
is_plain_node (Some End) = false
is_plain_node (Some (Call function next)) = false

-- whether runs go on at a node
abbrev pub is_plain : Flow → NodeId → Bool
is_plain g v = is_plain_node (slice_get g.nodes v.0)

-- ---- A search over nodes: those that were found, and those of them from which it has not gone on

pub record Search : Type 0 where
  pub found : List Bool
  pub waiting : List NodeId

-- nothing was found among so many nodes
abbrev pub search_new : ℕ → Search
search_new count = record { found = flags_new count; waiting = [] }

-- a node that was not found yet
abbrev pub enter : NodeId → Search → Search
enter v s = if flag_at s.found v.0 then s else record { found = flags_set s.found v.0; waiting = s.waiting ++ v ∷ [] }

-- the node from which the search goes on: the last one
abbrev pub next_waiting : Search → Option NodeId
next_waiting s = slice_get s.waiting (length s.waiting - 1)

abbrev pub without_next : Search → Search
without_next s = record { found = s.found; waiting = take (length s.waiting - 1) s.waiting }

abbrev pub enter_target : Option Edge → Search → Search
enter_target None s = s
enter_target (Some e) s = enter e.to s

-- the nodes to which these edges lead
abbrev pub enter_targets : List Edge → List EdgeId → Search → Search
enter_targets edges [] s = s
enter_targets edges (e ∷ es) s = enter_targets edges es (enter_target (slice_get edges e.0) s)

-- one step from the node that is next, if there is one, and then the rest
abbrev pub step_then : (NodeId → Search → Search) → (Search → Search) → Option NodeId → Search → Search
step_then step rest None s = s
step_then step rest (Some v) s = rest (step v (without_next s))

-- a search that goes on from at most so many nodes
abbrev pub gone_on : (NodeId → Search → Search) → ℕ → Search → Search
gone_on step zero s = s
gone_on step (suc n) s = step_then step (gone_on step n) (next_waiting s) s

abbrev pub reach_from : Flow → NodeId → Search → Search
reach_from g v s = enter_targets g.edges (outs g v) s

abbrev pub reach_begun : Flow → Search
reach_begun g = record { found = flags_set (flags_new (length g.nodes)) g.entry.0; waiting = g.entry ∷ [] }

-- the nodes that are reached from the entry
abbrev pub reached : Flow → List Bool
reached g = (gone_on (reach_from g) (length g.nodes) (reach_begun g)).found

-- ---- Nodes from which an error or a listed loop's node is reached

-- edge number n behind the edges before it that lead to the same node
abbrev pub chained : Backward → ℕ → ℕ → Backward
chained s n to = record { first = links_set s.first to (Some n); next = links_set s.next n (link_at s.first to) }

abbrev pub all_chained : Backward → ℕ → List Edge → Backward
all_chained s n [] = s
all_chained s n (e ∷ es) = all_chained (chained s n e.to.0) (n + 1) es

-- the edges by the node that they lead to
abbrev pub edges_backward : Flow → Backward
edges_backward g = all_chained (record { first = links_new (length g.nodes); next = links_new (length g.edges) }) 0 g.edges

abbrev pub enter_source : Option Edge → Search → Search
enter_source None s = s
enter_source (Some e) s = enter e.from s

-- the nodes from which the edges of a chain lead, at most so many
abbrev pub enter_chain : List Edge → List (Option ℕ) → ℕ → Option ℕ → Search → Search
enter_chain edges next zero at s = s
enter_chain edges next (suc n) None s = s
enter_chain edges next (suc n) (Some k) s = enter_chain edges next n (link_at next k) (enter_source (slice_get edges k) s)

-- the nodes from which an edge leads to this one
abbrev pub enter_sources : Flow → Backward → NodeId → Search → Search
enter_sources g chains v s = enter_chain g.edges chains.next (length g.edges) (link_at chains.first v.0) s

abbrev pub enter_error : ℕ → Node → Search → Search
enter_error n Plain s = s
enter_error n (Error kind at) s = enter (record { 0 = n }) s
enter_error n End s = s
enter_error n (Call function next) s = s

-- the errors among these nodes, the first of which is number n
abbrev pub enter_errors : ℕ → List Node → Search → Search
enter_errors n [] s = s
enter_errors n (v ∷ vs) s = enter_errors (n + 1) vs (enter_error n v s)

-- the nodes of loops
abbrev pub enter_loops : List LoopAt → Search → Search
enter_loops [] s = s
enter_loops (l ∷ ls) s = enter_loops ls (enter l.node s)

abbrev pub alive_begun : Flow → Search
alive_begun g = enter_loops g.loops (enter_errors 0 g.nodes (search_new (length g.nodes)))

-- the nodes from which an error or a listed loop's node is reached
abbrev pub alive : Flow → List Bool
alive g = (gone_on (enter_sources g (edges_backward g)) (length g.nodes) (alive_begun g)).found

-- ---- Ways out of nodes

abbrev pub first_test : List Operation → Option TermId
first_test [] = None
first_test (Assume t ∷ ops) = Some t
first_test (Set c t ∷ ops) = None
first_test (SetAt first n i t ∷ ops) = None
first_test (Draw c signed ∷ ops) = None

abbrev pub is_assume : Operation → Bool
is_assume (Assume t) = true
is_assume (Set c t) = false
is_assume (SetAt first n i t) = false
is_assume (Draw c signed) = false

abbrev pub stops_at : ℕ → Operation → Bool → Bool
stops_at n op is_tested = is_assume op && (nat_lt 0 n || not is_tested)

abbrev pub stops_from : ℕ → List Operation → Bool → Bool
stops_from n [] is_tested = false
stops_from n (op ∷ ops) is_tested = stops_at n op is_tested || stops_from (n + 1) ops is_tested

-- whether an operation behind the first may stop a run, or the first one where it is no test
abbrev pub stops : List Operation → Bool → Bool
stops ops is_tested = stops_from 0 ops is_tested

abbrev pub way_on : EdgeId → Edge → Option Way
way_on number e =
    if stops e.ops (is_some (first_test e.ops)) then None else Some (record { edge = number; to = e.to; test = first_test e.ops })

abbrev pub way_in : EdgeId → Option Edge → Option Way
way_in number None = None
way_in number (Some e) = way_on number e

-- the way of an edge, unless an operation behind its first may stop a run
abbrev pub way_of : Flow → EdgeId → Option Way
way_of g number = way_in number (slice_get g.edges number.0)

abbrev pub is_not_of : Term → TermId → Bool
is_not_of (Not j) i = j.0 == i.0
is_not_of t i = false

abbrev pub are_opposite : Option Term → Option Term → TermId → TermId → Bool
are_opposite None other i j = false
are_opposite (Some t) None i j = false
are_opposite (Some t) (Some u) i j = is_not_of u i || is_not_of t j

-- whether one of two terms is the complement of the other
abbrev pub are_complements : Table → TermId → TermId → Bool
are_complements table i j = are_opposite (slice_get table.terms i.0) (slice_get table.terms j.0) i j

abbrev pub is_bare_edge : Option Edge → Bool
is_bare_edge None = false
is_bare_edge (Some e) = nat_le (length e.ops) 1

-- whether a way does nothing behind its test
abbrev pub is_bare : Flow → Way → Bool
is_bare g way = is_bare_edge (slice_get g.edges way.edge.0)

abbrev pub regular_by : Bool → Bool → Bool → Bool → Bool
regular_by true false first second = first
regular_by false true first second = second
regular_by true true first second = first && second
regular_by false false first second = first && second

-- of two ways only one beside an error's does anything behind its test
abbrev pub is_regular : Flow → Way → Way → Bool
is_regular g first second = regular_by (is_error g first.to) (is_error g second.to) (is_bare g first) (is_bare g second)

abbrev pub tested_pair : Flow → Way → Way → Option TermId → Option TermId → Ways
tested_pair g first second None other = Kept
tested_pair g first second (Some i) None = Kept
tested_pair g first second (Some i) (Some j) = if are_complements g.terms i j && is_regular g first second then Two first second else Kept

-- two ways under a term and its complement
abbrev pub pair : Flow → Way → Way → Ways
pair g first second = tested_pair g first second first.test second.test

abbrev pub only_way : Option Way → Ways
only_way None = Kept
only_way (Some way) = One way

abbrev pub both_ways : Flow → Option Way → Option Way → Ways
both_ways g None second = Kept
both_ways g (Some first) None = Kept
both_ways g (Some first) (Some second) = pair g first second

abbrev pub ways_among : Flow → List EdgeId → Ways
ways_among g [] = Kept
ways_among g (e ∷ []) = only_way (way_of g e)
ways_among g (e ∷ f ∷ []) = both_ways g (way_of g e) (way_of g f)
ways_among g (e ∷ f ∷ d ∷ es) = Kept

-- the ways out of a node
abbrev pub ways_of : Flow → NodeId → Ways
ways_of g v = ways_among g (outs g v)

abbrev pub is_draw : Operation → Bool
is_draw (Assume t) = false
is_draw (Set c t) = false
is_draw (SetAt first n i t) = false
is_draw (Draw c signed) = true

abbrev pub some_draw : List Operation → Bool
some_draw [] = false
some_draw (op ∷ ops) = is_draw op || some_draw ops

-- whether an edge draws a value
abbrev pub draws : Edge → Bool
draws e = some_draw e.ops

-- ---- The ways of all nodes

-- numbers below n with both truths
abbrev pub both_below : List Bool → List Bool → List Bool → ℕ → List Bool
both_below first second found zero = found
both_below first second found (suc n) =
    let before = both_below first second found n in
    if flag_at first n && flag_at second n then flags_set before n else before

-- numbers with both truths
abbrev pub both : ℕ → List Bool → List Bool → List Bool
both count first second = both_below first second (flags_new count) count

abbrev pub ways_if : Flow → List Bool → ℕ → Ways
ways_if g matters n = if flag_at matters n then ways_of g (record { 0 = n }) else Kept

-- the ways of the first n nodes
abbrev pub ways_below : Flow → List Bool → ℕ → List Ways
ways_below g matters zero = []
ways_below g matters (suc n) = ways_below g matters n ++ ways_if g matters n ∷ []

-- the ways out of each node that matters; those of others are kept
abbrev pub all_ways : Flow → List Bool → List Ways
all_ways g matters = ways_below g matters (length g.nodes)

abbrev pub or_kept : Option Ways → Ways
or_kept None = Kept
or_kept (Some ways) = ways

-- the ways out of a node
abbrev pub ways_at : List Ways → NodeId → Ways
ways_at ways v = or_kept (slice_get ways v.0)

abbrev pub is_kept : Ways → Bool
is_kept Kept = true
is_kept (One way) = false
is_kept (Two first second) = false

-- ---- Cut points that no block decides

abbrev pub loops_listed : List Bool → List LoopAt → List Bool
loops_listed listed [] = listed
loops_listed listed (l ∷ ls) = loops_listed (flags_set listed l.node.0) ls

-- the entry and the nodes of loops, among so many nodes
abbrev pub listed_nodes : Flow → ℕ → List Bool
listed_nodes g count = loops_listed (flags_set (flags_new count) g.entry.0) g.loops

abbrev pub ends : Node → Bool
ends v = not (is_plain_node (Some v))

abbrev pub cut_end : List Ways → List Bool → ℕ → Node → List Bool
cut_end ways cuts n v = if is_kept (ways_at ways (record { 0 = n })) || ends v then flags_set cuts n else cuts

abbrev pub ends_cut : List Ways → List Bool → ℕ → List Node → List Bool
ends_cut ways cuts n [] = cuts
ends_cut ways cuts n (v ∷ vs) = ends_cut ways (cut_end ways cuts n v) (n + 1) vs

-- nodes at which runs end, and those that keep their edges
abbrev pub cut_ends : Flow → List Ways → List Bool → List Bool
cut_ends g ways cuts = ends_cut ways cuts 0 g.nodes

abbrev pub cut_target : List Ways → List Bool → List Bool → Edge → List Bool
cut_target ways matters cuts e =
    if flag_at matters e.from.0 && (is_kept (ways_at ways e.from) || nat_le e.to.0 e.from.0) then flags_set cuts e.to.0 else cuts

abbrev pub targets_cut : List Ways → List Bool → List Bool → List Edge → List Bool
targets_cut ways matters cuts [] = cuts
targets_cut ways matters cuts (e ∷ es) = targets_cut ways matters (cut_target ways matters cuts e) es

-- targets of edges that do not go up, and of those that are kept
abbrev pub cut_targets : Flow → List Ways → List Bool → List Bool → List Bool
cut_targets g ways matters cuts = targets_cut ways matters cuts g.edges

-- cut points that no block decides
abbrev pub first_cuts : Flow → List Ways → List Bool → List Bool
first_cuts g ways matters = cut_targets g ways matters (cut_ends g ways (listed_nodes g (length g.nodes)))

-- ---- Ways that lead up

abbrev pub is_way_up : List Bool → Edge → Bool
is_way_up matters e = flag_at matters e.from.0 && nat_lt e.from.0 e.to.0

-- a further edge, whose number is n: a way up from a node that matters stands before those that lead to the same node
abbrev pub before : List Bool → WayChains → ℕ → Edge → WayChains
before matters s n e =
    if is_way_up matters e
    then record { first = links_set s.first e.to.0 (Some n); next = s.next ++ link_at s.first e.to.0 ∷ []; from = s.from ++ e.from ∷ [] }
    else record { first = s.first; next = s.next ++ None ∷ []; from = s.from ++ e.from ∷ [] }

abbrev pub befores_from : List Bool → WayChains → ℕ → List Edge → WayChains
befores_from matters s n [] = s
befores_from matters s n (e ∷ es) = befores_from matters (before matters s n e) (n + 1) es

abbrev pub befores_new : ℕ → WayChains
befores_new count = record { first = links_new count; next = []; from = [] }

-- the ways that lead up to each node, from nodes that matter
abbrev pub befores_of : Flow → List Bool → WayChains
befores_of g matters = befores_from matters (befores_new (length g.nodes)) 0 g.edges

abbrev pub or_node : Option NodeId → NodeId → NodeId
or_node None v = v
or_node (Some u) v = u

-- the block of a place, the place itself where it has none
abbrev pub block_of : List (Option ℕ) → NodeId → ℕ
block_of starts v = unwrap_or (link_at starts v.0) v.0

-- the block from which a way of this number leads
abbrev pub block_before : WayChains → List (Option ℕ) → NodeId → ℕ → ℕ
block_before befores starts v k = block_of starts (or_node (slice_get befores.from k) v)

-- ---- The block of a place

-- the blocks from which the ways of a chain lead, at most so many
abbrev pub blocks_along : WayChains → NodeId → List (Option ℕ) → ℕ → Option ℕ → List ℕ
blocks_along befores v starts zero at = []
blocks_along befores v starts (suc n) None = []
blocks_along befores v starts (suc n) (Some k) = block_before befores starts v k ∷ blocks_along befores v starts n (link_at befores.next k)

-- the blocks from which ways lead to a place
abbrev pub blocks_before : Flow → WayChains → NodeId → List (Option ℕ) → List ℕ
blocks_before g befores v starts = blocks_along befores v starts (length g.edges) (link_at befores.first v.0)

abbrev pub is_same_block : Option ℕ → ℕ → Bool
is_same_block None block = true
is_same_block (Some start) block = start == block

-- a further way, from a block
abbrev pub came_from : Came → ℕ → Came
came_from c block = record { start = Some block; is_one = c.is_one && is_same_block c.start block }

abbrev pub came_all : List ℕ → Came → Came
came_all [] c = c
came_all (b ∷ bs) c = came_all bs (came_from c b)

-- no way came to a place
abbrev pub came_none : Came
came_none = record { start = None; is_one = true }

-- a way from a block was gone through; ways to an error do not count
abbrev pub taken : Bool → Pending → ℕ → Pending
taken is_end pending block = if is_end then pending else record { ahead = counts_take pending.ahead block; left = pending.left }

abbrev pub taken_all : Bool → List ℕ → Pending → Pending
taken_all is_end [] pending = pending
taken_all is_end (b ∷ bs) pending = taken_all is_end bs (taken is_end pending b)

-- a block has a way out
abbrev pub left : Pending → ℕ → Pending
left pending block = record { ahead = pending.ahead; left = flags_set pending.left block }

abbrev pub left_all : List ℕ → Pending → Pending
left_all [] pending = pending
left_all (b ∷ bs) pending = left_all bs (left pending b)

-- the blocks that lead to a cut point have a way out
abbrev pub leave_all : Flow → WayChains → NodeId → List (Option ℕ) → Pending → Pending
leave_all g befores v starts pending = left_all (blocks_before g befores v starts) pending

abbrev pub edge_draws : Option Edge → Bool
edge_draws None = false
edge_draws (Some e) = draws e

abbrev pub way_draws : Flow → Way → Bool
way_draws g way = edge_draws (slice_get g.edges way.edge.0)

abbrev pub some_way_draws : Flow → Ways → Bool
some_way_draws g Kept = false
some_way_draws g (One way) = way_draws g way
some_way_draws g (Two first second) = way_draws g first || way_draws g second

-- whether a way out of a node draws a value
abbrev pub node_draws : Flow → List Ways → NodeId → Bool
node_draws g ways v = some_way_draws g (ways_at ways v)

-- whether no way of a block is open, and none leads out of it
abbrev pub is_sure : Pending → Option ℕ → Bool
is_sure pending None = false
is_sure pending (Some block) = count_at pending.ahead block == 0 && not (flag_at pending.left block)

-- whether a place has to be cut off
abbrev pub is_cut : Flow → NodeId → Plan → Came → Pending → Bool
is_cut g v plan c pending =
    flag_at plan.cuts v.0 || is_none c.start || not c.is_one || (not (is_sure pending c.start) && node_draws g plan.ways v)

-- a plan in which a place is a cut point
abbrev pub cut_off : Plan → NodeId → Plan
cut_off plan v = record {
  ways = plan.ways;
  reached = plan.reached;
  alive = plan.alive;
  matters = plan.matters;
  cuts = flags_set plan.cuts v.0;
  sure = flags_set plan.sure v.0;
  starts = links_set plan.starts v.0 (Some v.0);
}

-- a plan in which a place belongs to a block
abbrev pub put_in : Plan → NodeId → Option ℕ → Bool → Plan
put_in plan v start sure = record {
  ways = plan.ways;
  reached = plan.reached;
  alive = plan.alive;
  matters = plan.matters;
  cuts = plan.cuts;
  sure = if sure then flags_set plan.sure v.0 else plan.sure;
  starts = links_set plan.starts v.0 start;
}

-- a place is cut off where it has to be, or else stands in the block that leads to it
abbrev pub settle_plan : Flow → NodeId → Plan → Came → Pending → Plan
settle_plan g v plan c pending = if is_cut g v plan c pending then cut_off plan v else put_in plan v c.start (is_sure pending c.start)

-- the blocks that lead to a cut point that is no error have a way out
abbrev pub settle_pending : Flow → WayChains → NodeId → Plan → Came → Pending → Pending
settle_pending g befores v plan c pending =
    if is_cut g v plan c pending then (if is_error g v then pending else leave_all g befores v (cut_off plan v).starts pending) else pending

-- ---- Ways out of a place

-- where a way out of a place leads
abbrev pub note : Flow → NodeId → Way → Plan → Pending → Pending
note g v way plan pending =
    if not (flag_at plan.matters way.to.0) || is_error g way.to then pending else
    if nat_le way.to.0 v.0
    then left pending (block_of plan.starts v)
    else record { ahead = counts_add pending.ahead (block_of plan.starts v); left = pending.left }

abbrev pub note_all : Flow → NodeId → Ways → Plan → Pending → Pending
note_all g v Kept plan pending = pending
note_all g v (One way) plan pending = note g v way plan pending
note_all g v (Two first second) plan pending = note g v second plan (note g v first plan pending)

-- where the ways out of a place lead
abbrev pub leave : Flow → NodeId → Plan → Pending → Pending
leave g v plan pending = note_all g v (ways_at plan.ways v) plan pending

-- ---- All places

-- a plan, and what is counted while the places are gone through
pub record Planning : Type 0 where
  pub plan : Plan
  pub pending : Pending

-- the block of a place is found
abbrev pub arrive : Flow → WayChains → NodeId → Planning → Planning
arrive g befores v s =
    let blocks = blocks_before g befores v s.plan.starts in
    let came = came_all blocks came_none in
    let pending = taken_all (is_error g v) blocks s.pending in
    record { plan = settle_plan g v s.plan came pending; pending = settle_pending g befores v s.plan came pending }

-- and where its ways lead
abbrev pub go_through : Flow → WayChains → NodeId → Planning → Planning
go_through g befores v s =
    let a = arrive g befores v s in
    record { plan = a.plan; pending = leave g v a.plan a.pending }

-- a place that matters is gone through
abbrev pub gone_if : Flow → WayChains → NodeId → Planning → Planning
gone_if g befores v s = if flag_at s.plan.matters v.0 then go_through g befores v s else s

-- the first n places
abbrev pub gone_through : Flow → WayChains → Planning → ℕ → Planning
gone_through g befores s zero = s
gone_through g befores s (suc n) = gone_if g befores (record { 0 = n }) (gone_through g befores s n)

-- a plan without blocks
abbrev pub plan_over : Flow → List Bool → List Bool → List Bool → List Ways → Plan
plan_over g reach live matters ways = record {
  ways = ways;
  reached = reach;
  alive = live;
  matters = matters;
  cuts = first_cuts g ways matters;
  sure = flags_new (length g.nodes);
  starts = links_new (length g.nodes);
}

abbrev pub matters_in : Flow → List Bool
matters_in g = both (length g.nodes) (reached g) (alive g)

abbrev pub plan_begun : Flow → Plan
plan_begun g = plan_over g (reached g) (alive g) (matters_in g) (all_ways g (matters_in g))

abbrev pub nothing_pending : ℕ → Pending
nothing_pending count = record { ahead = counts_new count; left = flags_new count }

-- the blocks of a graph
abbrev pub blocks_of : Flow → Plan
blocks_of g =
    (gone_through g (befores_of g (plan_begun g).matters)
    (record { plan = plan_begun g; pending = nothing_pending (length g.nodes) }) (length g.nodes)).plan

-- whether a node is a cut point from which a block begins: one that matters and is not kept
abbrev pub begins : Flow → Plan → NodeId → Bool
begins g plan v = flag_at plan.matters v.0 && flag_at plan.cuts v.0 && is_plain g v && not (is_kept (ways_at plan.ways v))

-- ---- What is read from a place on

-- a unit is marked as read
abbrev pub mark_one : List ℕ → ℕ → List ℕ
mark_one scratch u = slice_set scratch (u / 64) (bit_or (slice_index scratch (u / 64)) (2 ^ (u % 64)))

-- units are marked as read
abbrev pub mark : List ℕ → List ℕ → List ℕ
mark scratch [] = scratch
mark scratch (u ∷ us) = mark (mark_one scratch u) us

-- a unit of one cell is marked as not read
abbrev pub clear : List ℕ → UnitTable → ℕ → List ℕ
clear scratch units u =
    if is_single units u
    then slice_set scratch (u / 64) (bit_and (slice_index scratch (u / 64)) (18446744073709551615 - 2 ^ (u % 64))) else scratch

-- what is read before an operation, where these units are read behind it
abbrev pub over_operation : UnitTable → List (List ℕ) → Operation → List ℕ → List ℕ
over_operation units reads (Assume t) scratch = mark scratch (units_of reads t.0)
over_operation units reads (Set c t) scratch = mark (clear scratch units (unit_of units c)) (units_of reads t.0)
over_operation units reads (SetAt first n i t) scratch = mark (mark scratch (units_of reads i.0)) (units_of reads t.0)
over_operation units reads (Draw c signed) scratch = clear scratch units (unit_of units c)

-- what is read before operations
abbrev pub over_operations : UnitTable → List (List ℕ) → List Operation → List ℕ → List ℕ
over_operations units reads [] scratch = scratch
over_operations units reads (op ∷ ops) scratch = over_operation units reads op (over_operations units reads ops scratch)

-- what is read from each node on, words to work on, and whether something changed
pub record Flowing : Type 0 where
  pub live : LiveRows
  pub scratch : List ℕ
  pub changed : Bool

-- the units that are read before an edge
abbrev pub words_before : UnitTable → List (List ℕ) → Edge → Flowing → List ℕ
words_before units reads e s = over_operations units reads e.ops (live_load s.live e.to.0 s.scratch)

-- what is read before an edge is added to what is read from its node on
abbrev pub flow_on : UnitTable → List (List ℕ) → Edge → Flowing → Flowing
flow_on units reads e s = record {
  live = live_join s.live e.from.0 (words_before units reads e s);
  scratch = words_before units reads e s;
  changed = s.changed || live_grows s.live e.from.0 (words_before units reads e s);
}

abbrev pub flow_some : Plan → UnitTable → List (List ℕ) → Option Edge → Flowing → Flowing
flow_some plan units reads None s = s
flow_some plan units reads (Some e) s = if flag_at plan.matters e.to.0 then flow_on units reads e s else s

-- nothing has changed yet
abbrev pub begun : Flowing → Flowing
begun s = record { live = s.live; scratch = s.scratch; changed = false }

-- nothing is read, from so many nodes on, each with so many words
abbrev pub flowing_new : ℕ → ℕ → Flowing
flowing_new count words = record { live = live_empty count words; scratch = replicate words 0; changed = false }

module _ (g : Flow) (plan : Plan) (units : UnitTable) (reads : List (List ℕ)) where
  abbrev pub flow_all : List EdgeId → Flowing → Flowing
  flow_all [] s = s
  flow_all (e ∷ es) s = flow_all es (flow_some plan units reads (slice_get g.edges e.0) s)

  abbrev pub flow_from : NodeId → Flowing → Flowing
  flow_from v s = if flag_at plan.alive v.0 then flow_all (outs g v) s else s

  -- the highest n nodes, the highest one first
  abbrev pub pass_over : Flowing → ℕ → Flowing
  pass_over s zero = s
  pass_over s (suc n) = flow_from (record { 0 = length g.nodes - 1 - n }) (pass_over s n)

  -- one pass from the highest node down
  abbrev pub pass : Flowing → Flowing
  pass s = pass_over (begun s) (length g.nodes)

  -- passes until nothing changes, at most so many
  abbrev pub passes : ℕ → Flowing → LiveRows
  passes zero s = s.live
  passes (suc n) s = let f = pass s in if f.changed then passes n f else f.live

  -- the units that are read from each node on, where there are to be at most so many words
  abbrev pub live_units : ℕ → LiveRows
  live_units most =
      let words = unit_count units / 64 + 1 in
      if nat_le (most / words) (length g.nodes) then live_unknown
      else passes (length g.nodes + 1) (flowing_new (length g.nodes) words)
