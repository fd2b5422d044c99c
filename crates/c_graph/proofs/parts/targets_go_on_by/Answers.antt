use Rattle.std.proofs.Common.{refl, subst}
use Rattle.std.proofs.lemmas.List.Elements.{All-more}
use Rattle.c_graph.specs.declared.graph.Edge.{Edge}
use Rattle.c_graph.specs.Parts.{GoesOnBy}
use Rattle.c_graph.proofs.Checking.{All-seen}
use Rattle.c_graph.proofs.parts.targets_go_on_by.Goals as goal

pub loop-edge-preserved : goal.loop-edge-preserved
loop-edge-preserved c =
    let P : Edge → Type 0 = λ e. GoesOnBy c.args.nodes.now c.args.marks.now e.to in
    All-more P c.args.edges.now c.loop-edge.edge-index c.edge-item.result c.loop-edge-test.true c.loop-edge.invariant (subst P c.edge-item.is (c.if-not-goes_on_by.ensures.0 refl))

pub returns : goal.returns
returns c = (λ _. All-seen (λ e. GoesOnBy c.args.nodes.now c.args.marks.now e.to) c.args.edges.now c.loop-edge.edge-index c.loop-edge-test.false c.loop-edge.invariant, λ _. refl)
