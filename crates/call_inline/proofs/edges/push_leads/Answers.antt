use Rattle.std.proofs.Common.{◌<◌, ◌++◌, ◌∙◌, ap, length, List, Option}
use Rattle.c_graph.specs.declared.graph.NodeId.{NodeId}
use Rattle.c_graph.specs.declared.graph.Edge.{Edge}
use Rattle.call_inline.specs.Copying.{leads_of, led, lists_of, node, number_of}
use Rattle.call_inline.proofs.Turning.{each_turn}
use Rattle.call_inline.proofs.edges.push_leads.Goals as goal

pub loop-at-preserved : goal.loop-at-preserved
loop-at-preserved c =
    let p = c.args.graphs.now in
    let o = (lists_of c.args.offsets.now) in
    let old : List Edge = c.loop-at.edges.items in
    let lt : c.loop-at.at < length c.nodes_of-nodes.result.now = c.loop-at-test.true in
    each_turn (leads_of p o c.args.copied) c.nodes_of-nodes.result.now c.loop-at.at _ old c.push_lead.new.edges.items _ lt
    (c.in_ok-push_lead.ensures ∙ ap (λ (here : NodeId). old ++ led here c.goal_at-goal.result) c.number-here.ensures
    ∙ ap (λ (to : Option NodeId). old ++ led (number_of o c.args.copied (node c.loop-at.at)) to) c.goal_at-goal.ensures) c.loop-at.invariant
