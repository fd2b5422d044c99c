use Rattle.c_graph.specs.Parts.{flow_of}
use Rattle.block_emission.proofs.Wholeness.{whole-made}
use Rattle.block_emission.proofs.whole.graph_of.Goals as goal

pub returns : goal.returns
returns c =
    let g = flow_of c.args.nodes.items c.args.edges.items c.args.cells.items c.args.terms c.args.entry c.args.loops.items in
    record { made = whole-made g c.in_ok-graph.graph c.count-count.ensures.table c.entry-entry.ensures.flow c.in_ok-graph.ensures.made c.in_ok-graph.ensures.whole }
