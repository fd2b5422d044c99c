use Rattle.std.proofs.Common.{◌≤◌, ◌∙◌, ap, length, arith}
use Rattle.c_graph.specs.Shape.{Flow}
use Rattle.block_join.specs.Made.{joined}
use Rattle.source_graphs.specs.Whole.{joined_of}
use Rattle.source_graphs.proofs.joined_blocks.Goals as goal

pub returns-in-Ok-clause-stands : goal.returns-in-Ok-clause-stands
returns-in-Ok-clause-stands c =
    let flow = c.entry-entry.ensures.flow in
    let few : length c.in_ok-graph.graph.nodes ≤ 2147483647 = omega (arith, flow.few) in
    c.joined_graphs_stand.ensures c.args.examined.now.typed c.in_ok-graph.graph c.in-Ok.blocks.graph few c.in_ok-graph.ensures.follow c.in_ok-graph.ensures.back c.in-Ok.ensures.keeps c.in-Ok.ensures.back

pub returns-in-Ok-clause-one : goal.returns-in-Ok-clause-one
unfolding joined_of
returns-in-Ok-clause-one c = c.in-Ok.ensures.one ∙ ap (λ (g : Flow). joined g) c.in_ok-graph.ensures.one

pub returns-in-Ok-clause-visits : goal.returns-in-Ok-clause-visits
returns-in-Ok-clause-visits c = record {
  whole = c.in_ok-graph.graph;
  visits = c.in_ok-graph.ensures.visits;
  errors = c.in_ok-graph.ensures.follow;
  stays = c.in-Ok.ensures.stays;
  keeps = c.in-Ok.ensures.visits;
}

pub returns-in-Ok-clause-marked : goal.returns-in-Ok-clause-marked
returns-in-Ok-clause-marked c = record {
  whole = c.in_ok-graph.graph;
  visits = c.in_ok-graph.ensures.visits;
  stand = c.in_ok-graph.ensures.cells;
  stays = c.in-Ok.ensures.stays;
  keeps = c.in-Ok.ensures.marked;
  within = c.in-Ok.ensures.within;
}
