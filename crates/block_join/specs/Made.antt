-- The graph of blocks of a graph, and the graph with joined chains of edges.
use Rattle.std.specs.Prelude.{ℕ, nat_lt, Bool, true, if◌then◌else◌, List, length}
use Rattle.c_graph.specs.declared.graph.NodeId.{NodeId}
use Rattle.c_graph.specs.Parts.{flow_of}
use Rattle.c_graph.specs.Shape.{Flow}
use Rattle.plan_tables.specs.Made.{units_new, reads_new}
use Rattle.block_plan.specs.Plans.{Plan}
use Rattle.block_plan.specs.Made.{blocks_of, live_units}
use Rattle.block_emission.specs.Emitting.{Scheme}
use Rattle.block_emission.specs.Blocking.{blocked, members_of}
use Rattle.block_emission.specs.Whole.{whole}
use Rattle.edge_chains.specs.Made.{join_chains}
use Rattle.walk_states.specs.declared.known.Known.{Known}
use Rattle.block_follow.specs.Made.{follows_rule}

-- ---- Blocks

-- what the blocks of a graph are made from, where what is read is told in at most so many words
abbrev pub scheme_over : Flow → Plan → ℕ → Scheme
scheme_over g plan most = record {
  graph = g;
  blocks = plan;
  units = units_new g.cells;
  live = live_units g plan (units_new g.cells) (reads_new g.terms (units_new g.cells)) most;
}

-- the graph of the blocks before chains are joined
abbrev pub attempted : Flow → ℕ → Flow
attempted g most = blocked (scheme_over g (blocks_of g) most) (members_of g (blocks_of g))

-- ---- Joined chains

-- the graph with joined chains of edges, or the one that stands where parts make none
abbrev pub chained : Flow → Flow
chained g = whole (flow_of g.nodes (join_chains g.nodes g.edges g.entry g.loops) g.cells g.terms g.entry g.loops)

-- more than the graph that stands where parts make none, which is a node alone
abbrev pub has_more : Flow → Bool
has_more g = if nat_lt 1 (length g.nodes) then true else if nat_lt 0 (length g.edges) then true else nat_lt 0 (length g.cells)

-- the graph in which chains of edges are one edge each, or the graph itself where these make none
abbrev pub with_chains : Flow → Flow
with_chains g = if has_more (chained g) then chained g else g

-- the graph of blocks where it has what the rule says, else the graph itself, with joined chains
abbrev pub joined_by : Bool → Flow → Flow → Flow
joined_by follows g blocks = if follows then with_chains blocks else with_chains g

-- ---- The test of blocks

-- what is known of the graph's places, where what is read is told in at most so many words
abbrev pub known_of : Flow → ℕ → Known
known_of g most = record {
  reached = (blocks_of g).reached;
  alive = (blocks_of g).alive;
  cuts = (blocks_of g).cuts;
  units = units_new g.cells;
  live = live_units g (blocks_of g) (units_new g.cells) (reads_new g.terms (units_new g.cells)) most;
  reads = reads_new g.terms (units_new g.cells);
}

-- what the test answers, the places of each block being these
unfoldable pub tested : (g blocks : Flow) → Known → List (List NodeId) → Bool
tested g blocks known places = follows_rule g blocks known places

-- whether the blocks that are made of a graph are what the rule says
unfoldable pub has_blocks : Flow → ℕ → Bool
has_blocks g most = tested g (attempted g most) (known_of g most) (members_of g (blocks_of g))

-- The graph of a graph's blocks, with joined chains; of one whose blocks are not what the rule says, the graph itself with joined chains.
abbrev pub joined : Flow → Flow
joined g = joined_by (has_blocks g 4194304) g (attempted g 4194304)
