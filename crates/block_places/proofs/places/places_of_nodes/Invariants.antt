use Rattle.std.proofs.Common.{◌≡◌, drop, length}
use Rattle.block_rule.specs.Plans.{ArePlaces}
use Rattle.block_edges.specs.Exact.{AllLed}
use Rattle.walk_states.specs.Known.{plan_of}
use Rattle.walk_states.specs.Walks.{places_of}
use Rattle.block_places.specs.Made as made
use Rattle.block_places.proofs.places.places_of_nodes.Given as goal

abbrev pub invariant-loop-node : goal.invariant-loop-node
invariant-loop-node l =
    ArePlaces l.graph (plan_of l.known) (length l.graph.cells) (places_of l.graph l.places.items)
    × AllLed l.graph (places_of l.graph l.places.items)
    × (made.places_of_nodes l.graph l.known l.nodes ≡ made.places_onto l.graph l.known l.places.items (drop l.node-index l.nodes))
