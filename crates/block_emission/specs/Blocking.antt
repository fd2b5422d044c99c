-- The graph of a graph's blocks.
use Rattle.std.specs.Prelude.{ℕ, zero, suc, ◌+◌, ◌*◌, ◌^◌, ◌-◌, ◌&&◌, nat_lt, min, max, Bool, true, false, if◌then◌else◌, length, List, Vec, [], ◌∷◌, ◌++◌, Option, None, Some, replicate, slice_get, slice_set, slice_index_or}
use Rattle.std.specs.Global.{Global}
use Rattle.bv_term.specs.declared.term.Term.{Term}
use Rattle.bv_term.specs.WellFormed.{Table, with_term}
use Rattle.c_terms.specs.Fitting.{fits_in, is_width}
use Rattle.c_graph.specs.declared.graph.NodeId.{NodeId}
use Rattle.c_graph.specs.declared.graph.EdgeId.{EdgeId}
use Rattle.c_graph.specs.declared.graph.Node.{Node}
use Rattle.c_graph.specs.declared.graph.Node.TheVariants.{Plain, Error, End, Call}
use Rattle.c_graph.specs.declared.graph.Origin.TheVariants.{Saved}
use Rattle.c_graph.specs.declared.graph.Cell.{Cell}
use Rattle.c_graph.specs.declared.graph.Edge.{Edge}
use Rattle.c_graph.specs.Parts.{flow_of}
use Rattle.c_graph.specs.Shape.{Flow, outs, widths_of}
use Rattle.plan_tables.specs.Tables.{flag_at}
use Rattle.block_plan.specs.Plans.{Plan}
use Rattle.block_plan.specs.Made.{begins, block_of, is_kept, is_plain, ways_at}
use Rattle.block_emission.specs.declared.terms.Truths.{Truths}
use Rattle.block_emission.specs.Putting.{Sketch, sketch_new, truths_of, with_edges, edge}
use Rattle.block_emission.specs.Emitting.{Scheme, block}
use Rattle.block_emission.specs.Whole.{whole}

-- ---- The places of each block

-- lists of nodes that lie in memory of their own, as lists
abbrev pub places_of : List (Vec NodeId Global) → List (List NodeId)
places_of [] = []
places_of (v ∷ vs) = v.items ∷ places_of vs

abbrev pub empty_lists : ℕ → List (List NodeId)
empty_lists count = replicate count []

-- a place stands behind those of its block
abbrev pub add_member : List (List NodeId) → (start : ℕ) → NodeId → List (List NodeId)
add_member lists start v = slice_set lists start (slice_index_or lists start [] ++ v ∷ [])

-- the place of a number, where it matters, in the block that has it
abbrev pub with_member : Plan → List (List NodeId) → ℕ → List (List NodeId)
with_member plan lists n =
    if flag_at plan.matters n then add_member lists (block_of plan.starts (record { 0 = n })) (record { 0 = n }) else lists

-- the first n places
abbrev pub members_below : Plan → List (List NodeId) → ℕ → List (List NodeId)
members_below plan lists zero = lists
members_below plan lists (suc n) = with_member plan (members_below plan lists n) n

-- the places of each block, by its cut point, which comes first
abbrev pub members_of : Flow → Plan → List (List NodeId)
members_of g plan = members_below plan (empty_lists (length g.nodes)) (length g.nodes)

-- the places of the largest block, or so many
abbrev pub most_from : ℕ → List (List NodeId) → ℕ
most_from most [] = most
most_from most (vs ∷ rest) = most_from (max most (length vs)) rest

-- a number of 32 bits, or the largest one
abbrev pub narrowed : ℕ → ℕ
narrowed n = if nat_lt n (2 ^ 32) then n else 2 ^ 32 - 1

-- saved cells for the largest block: at most three a place
abbrev pub room_for : List (List NodeId) → ℕ
room_for members = min (narrowed (most_from 0 members) * 3) (2 ^ 32 - 1)

-- ---- Terms over other cells

abbrev pub no_truths : Truths
no_truths = truths_of (record { cells = []; terms = [] }) false

-- a term behind the others, if it is well formed over the table
abbrev pub append : Truths → Term → Truths
append w t = if fits_in w.terms t then truths_of (with_term w.terms t) w.is_sound else truths_of w.terms false

abbrev pub append_all : Truths → List Term → Truths
append_all w [] = w
append_all w (t ∷ ts) = append_all (append w t) ts

abbrev pub are_widths : List ℕ → Bool
are_widths [] = true
are_widths (w ∷ ws) = is_width w && are_widths ws

-- a table of the same terms over other cells
abbrev pub copied : Table → List ℕ → Truths
copied table cells = if are_widths cells then append_all (truths_of (record { cells = cells; terms = [] }) true) table.terms else no_truths

-- the graph's terms over its cells and so many saved cells of one bit
abbrev pub with_cells : Flow → ℕ → Truths
with_cells g more = copied g.terms (g.terms.cells ++ replicate more 1)

-- ---- Nodes that keep their edges

abbrev pub keep_edge : Plan → Sketch → Edge → Sketch
keep_edge plan d e = if flag_at plan.matters e.to.0 then with_edges d (d.edges ++ e ∷ []) else d

abbrev pub keep_by : Plan → Sketch → Option Edge → Sketch
keep_by plan d None = d
keep_by plan d (Some e) = keep_edge plan d e

abbrev pub keep_one : Flow → Plan → Sketch → EdgeId → Sketch
keep_one g plan d k = keep_by plan d (slice_get g.edges k.0)

-- those of these edges that lead to nodes that matter
abbrev pub keep_all : Flow → Plan → Sketch → List EdgeId → Sketch
keep_all g plan d [] = d
keep_all g plan d (k ∷ ks) = keep_all g plan (keep_one g plan d k) ks

abbrev pub keeps : Plan → NodeId → Bool
keeps plan v = if flag_at plan.matters v.0 then (if flag_at plan.cuts v.0 then is_kept (ways_at plan.ways v) else false) else false

-- a node that keeps its edges, but for those to nodes that do not matter
abbrev pub keep_edges : Flow → Plan → NodeId → Sketch → Sketch
keep_edges g plan v d = if keeps plan v then keep_all g plan d (outs g v) else d

-- ---- Where nothing matters

abbrev pub end_at : NodeId → ℕ → Node → NodeId
end_at end n Plain = end
end_at end n (Error kind at) = end
end_at end n End = record { 0 = n }
end_at end n (Call callee next) = end

-- the last end among these nodes, the first of them being number n
abbrev pub last_end : NodeId → ℕ → List Node → NodeId
last_end end n [] = end
last_end end n (x ∷ xs) = last_end (end_at end n x) (n + 1) xs

-- where neither an error nor a loop's node is reached, one edge leads from the entry to an end
abbrev pub end_where_nothing_matters : Flow → Plan → Sketch → Sketch
end_where_nothing_matters g plan d =
    if flag_at plan.matters g.entry.0 then d else
    if is_plain g g.entry then edge d g.entry (last_end g.entry 0 g.nodes) [] else d

-- ---- The graph of blocks

abbrev pub saved_cell : Cell
saved_cell = record { width = 1; origin = Saved }

-- the graph's cells, and so many saved cells of one bit
abbrev pub all_cells : Flow → ℕ → List Cell
all_cells g used = g.cells ++ replicate used saved_cell

-- nodes over terms that are not well formed count for nothing: without a node the parts make no graph
abbrev pub sound_nodes : Bool → Bool → List Node → List Node
sound_nodes true true nodes = nodes
sound_nodes true false nodes = []
sound_nodes false last nodes = []

-- the graph of what was made, its terms being copied over the cells that are used
abbrev pub finish_over : Flow → Sketch → Truths → Flow
finish_over g d last =
    whole (flow_of (sound_nodes d.truths.is_sound last.is_sound d.nodes) d.edges (all_cells g d.used) last.terms g.entry g.loops)

abbrev pub finish : Flow → Sketch → Flow
finish g d = finish_over g d (copied d.truths.terms (widths_of (all_cells g d.used)))

-- the edges of one block, or those of a node that keeps its edges
abbrev pub emit : Scheme → Sketch → ℕ → List NodeId → Sketch
emit p d n places =
    if begins p.graph p.blocks (record { 0 = n }) then block p d places else keep_edges p.graph p.blocks (record { 0 = n }) d

-- of these blocks, the first of them being number n
abbrev pub emit_all : Scheme → Sketch → ℕ → List (List NodeId) → Sketch
emit_all p d n [] = d
emit_all p d n (places ∷ rest) = emit_all p (emit p d n places) (n + 1) rest

-- the edges of each block, and those of nodes that keep theirs
abbrev pub blocked : Scheme → List (List NodeId) → Flow
blocked p members =
    let g = p.graph in
    let d = sketch_new g.nodes (with_cells g (room_for members)) (length g.cells) in
    finish g (end_where_nothing_matters g p.blocks (emit_all p d 0 members))
