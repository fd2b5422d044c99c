-- A walk along a block's places, by the rule's state, and the ways out of places.
use Rattle.std.specs.Prelude.{ℕ, List, [], ◌∷◌, Option, None, Some, drop, slice_get}
use Rattle.c_graph.specs.declared.graph.Edge.{Edge}
use Rattle.c_graph.specs.declared.graph.Operation.{Operation}
use Rattle.c_graph.specs.Shape.{Flow}
use Rattle.bv_term.specs.WellFormed.{Table}
use Rattle.block_rule.specs.Deeds.{Code, Stops}
use Rattle.block_rule.specs.Plans as plans
use Rattle.block_rule.specs.Rule.{Wait, Bad, State, block_code, first_bad}
use Rattle.block_steps.specs.Cursors.{Meets}
use Rattle.walk_states.specs.declared.state.Waiting.{Waiting}
use Rattle.walk_states.specs.declared.state.Failing.{Failing}
use Rattle.walk_states.specs.declared.state.Walk.{Walk}
use Rattle.walk_states.specs.declared.state.Way.{Way}
use Rattle.walk_states.specs.declared.state.Ways.{Ways}
use Rattle.walk_states.specs.declared.state.Ways.TheVariants.{Goes, Tested, Checked, Fails, Forks}
use Rattle.walk_states.specs.declared.state.Place.{Place}

abbrev pub waits_of : List Waiting → List Wait
waits_of [] = []
waits_of (w ∷ ws) = record { node = w.node; guard = w.guard } ∷ waits_of ws

abbrev pub bads_of : List Failing → List Bad
bads_of [] = []
bads_of (b ∷ bs) = record { cell = b.cell; error = b.error } ∷ bads_of bs

-- what is known on a walk
abbrev pub state_of : Walk → State
state_of w = record { waiting = waits_of w.waiting.items; bads = bads_of w.bads.items; lost = w.lost; next = w.next }

-- where the graph has a code behind the second walk, it has this one behind the first
abbrev pub Finds : Flow → Walk → ((State → Code) → Code) → Walk → Type 0
Finds h old f new = (rest : State → Code) → Meets h new.cursor (rest (state_of new)) → Meets h old.cursor (f rest)

abbrev pub ops_of : Option Edge → List Operation
ops_of None = []
ops_of (Some e) = e.ops

-- a way's operations are those of an edge behind its test
abbrev pub moves_of : Flow → Way → List Operation
moves_of g w = drop w.skip (ops_of (slice_get g.edges w.edge_at))

abbrev pub way_of : Flow → Way → plans.Way
way_of g w = record { to = w.to; moves = moves_of g w }

abbrev pub ways_of : Flow → Ways → plans.Ways
ways_of g (Goes w) = plans.Goes (way_of g w)
ways_of g (Tested t w) = plans.Tested t (way_of g w)
ways_of g (Checked t error u w) = plans.Checked t error u (way_of g w)
ways_of g (Fails t error u other) = plans.Fails t error u other
ways_of g (Forks t one u other) = plans.Forks t one u other

abbrev pub place_of : Flow → Place → plans.Place
place_of g p = record { node = p.node; ways = ways_of g p.ways }

abbrev pub places_of : Flow → List Place → List plans.Place
places_of g [] = []
places_of g (p ∷ ps) = place_of g p ∷ places_of g ps

-- the error of the first check that failed, where there is one
abbrev pub first_of : List Bad → Code
first_of [] = Stops
first_of (b ∷ bs) = first_bad b bs

-- the code of the block of these places
abbrev pub all_of : Table → plans.Plan → List plans.Place → ℕ → Code
all_of table plan [] next = Stops
all_of table plan (p ∷ ps) next = block_code table plan p ps next
