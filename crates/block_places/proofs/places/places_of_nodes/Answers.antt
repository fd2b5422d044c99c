use Rattle.std.proofs.Common.{◌≡◌, ◌≤◌, rules, List, length, subst, sym, get_or, Some, slice_get}
use Rattle.std.proofs.lemmas.Option.{slice_get-get_or}
use Rattle.c_graph.specs.declared.graph.NodeId.{NodeId}
use Rattle.block_rule.specs.Plans.{ArePlaces}
use Rattle.block_edges.specs.Exact.{AllLed}
use Rattle.walk_states.specs.declared.state.Place.{Place}
use Rattle.walk_states.specs.Known.{plan_of}
use Rattle.walk_states.specs.Walks.{places_of}
use Rattle.block_places.specs.Made as made
use Rattle.block_places.proofs.Covering.{more-led, more-places}
use Rattle.block_places.proofs.Deciding.{onto-end, onto-more, onto-not}
use Rattle.block_places.proofs.places.places_of_nodes.Goals as goal

pub loop-node-preserved : goal.loop-node-preserved
loop-node-preserved c =
    let g = c.args.graph.now in
    let plan = plan_of c.args.known.now in
    let is = rw c.in-Some.is at c.in_ok-place.ensures.place in
    let led = rw c.in-Some.is at c.in_ok-place.ensures.led in
    let told = rw c.in-Some.is at c.in_ok-place.ensures.made in
    let v : NodeId = get_or c.args.nodes.now c.loop-node.node-index (record { 0 = 0 }) in
    let there : slice_get c.args.nodes.now c.loop-node.node-index ≡ Some v =
    slice_get-get_or c.args.nodes.now c.loop-node.node-index (record { 0 = 0 }) c.loop-node-test.true in (
      subst (λ (ps : List Place). ArePlaces g plan (length g.cells) (places_of g ps)) (sym c.in_ok-push.ensures.items)
          (more-places g plan (length g.cells) c.loop-node.places.items c.in-Some.place c.loop-node.invariant.0 is),
      subst (λ (ps : List Place). AllLed g (places_of g ps)) (sym c.in_ok-push.ensures.items)
          (more-led g c.loop-node.places.items c.in-Some.place c.loop-node.invariant.1 led),
      onto-more g c.args.known.now c.args.nodes.now c.loop-node.node-index v c.loop-node.places.items c.push.new.self.items c.in-Some.place
          (made.places_of_nodes g c.args.known.now c.args.nodes.now) there (sym told) c.in_ok-push.ensures.items c.loop-node.invariant.2,
    )

pub returns-in_default-clause-made : goal.returns-in_default-clause-made
returns-in_default-clause-made c =
    let told = rw c.in_default.is at c.in_ok-place.ensures.made in
    let v : NodeId = get_or c.args.nodes.now c.loop-node.node-index (record { 0 = 0 }) in
    let there : slice_get c.args.nodes.now c.loop-node.node-index ≡ Some v =
    slice_get-get_or c.args.nodes.now c.loop-node.node-index (record { 0 = 0 }) c.loop-node-test.true in
    onto-not c.args.graph.now c.args.known.now c.args.nodes.now c.loop-node.node-index v c.loop-node.places.items
    (made.places_of_nodes c.args.graph.now c.args.known.now c.args.nodes.now) there (sym told) c.loop-node.invariant.2

pub returns-clause-made : goal.returns-clause-made
returns-clause-made c =
    let past : length c.args.nodes.now ≤ c.loop-node.node-index = search rules in
    onto-end c.args.graph.now c.args.known.now c.args.nodes.now c.loop-node.node-index c.loop-node.places.items
    (made.places_of_nodes c.args.graph.now c.args.known.now c.args.nodes.now) past c.loop-node.invariant.2
