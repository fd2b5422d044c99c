use Rattle.std.proofs.Common.{refl}
use Rattle.std.proofs.lemmas.List.Elements.{All-more}
use Rattle.c_graph.specs.Shape.{IsNoCall}
use Rattle.c_graph.proofs.Checking.{All-seen, no-call}
use Rattle.c_graph.proofs.check.no_calls.Goals as goal

pub loop-node-preserved : goal.loop-node-preserved
loop-node-preserved c =
    All-more IsNoCall c.args.nodes.now c.loop-node.node-index _ c.loop-node-test.true c.loop-node.invariant (no-call _ c.in_default.not-Call)

pub returns : goal.returns
returns c = (λ _. All-seen IsNoCall c.args.nodes.now c.loop-node.node-index c.loop-node-test.false c.loop-node.invariant, λ _. refl)
