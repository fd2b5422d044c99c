use Rattle.std.proofs.Common.{arith, ap, sym, ◌∙◌}
use Rattle.c_graph.specs.Shape.{Flow, outs_from}
use Rattle.c_graph.proofs.Chaining.{outs_beyond, flow_sources}
use Rattle.c_graph.proofs.flow.Graph.outs.Goals as goal

pub returns-then-node-len : goal.returns-then-node-len
returns-then-node-len c =
    c.new.ensures.items
    ∙ sym (outs_beyond _ 0 c.args.node.0 c.self.inside.edges.items (flow_sources _ _ _ c.self.invariant.0.edges) (omega (arith, c.self.invariant.1.firsts)))
    ∙ ap (λ (g : Flow). outs_from 0 g.edges c.args.node) c.self.view_is
