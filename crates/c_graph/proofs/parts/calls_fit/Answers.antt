use Rattle.std.proofs.Common.{refl}
use Rattle.std.proofs.lemmas.List.Elements.{All-more}
use Rattle.c_graph.specs.Parts.{CallFitsBy}
use Rattle.c_graph.proofs.Checking.{All-seen}
use Rattle.c_graph.proofs.parts.calls_fit.Goals as goal

pub loop-node-preserved : goal.loop-node-preserved
loop-node-preserved c =
    All-more (CallFitsBy c.args.functions c.args.nodes.now c.args.marks.now) c.args.nodes.now c.loop-node.node-index _ c.loop-node-test.true c.loop-node.invariant (c.call_fits.ensures.0 c.if-not-call_fits.false)

pub returns : goal.returns
returns c = (λ _. All-seen (CallFitsBy c.args.functions c.args.nodes.now c.args.marks.now) c.args.nodes.now c.loop-node.node-index c.loop-node-test.false c.loop-node.invariant, λ _. refl)
