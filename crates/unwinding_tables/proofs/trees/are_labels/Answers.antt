use Rattle.std.proofs.Common.{subst}
use Rattle.std.proofs.lemmas.List.Elements.{All-more}
use Rattle.reach_tree.specs.declared.vertex.NewLabel.{NewLabel}
use Rattle.reach_tree.specs.Trees.{IsLabel}
use Rattle.c_graph.proofs.Checking.{All-seen}
use Rattle.unwinding_tables.proofs.trees.are_labels.Goals as goal

pub loop-label-preserved : goal.loop-label-preserved
loop-label-preserved c =
    All-more (λ (l : NewLabel). IsLabel c.args.terms.now l.label) c.args.labels.now c.loop-label.label-index c.label-item.result c.loop-label-test.true c.loop-label.invariant
    (subst (λ (l : NewLabel). IsLabel c.args.terms.now l.label) c.label-item.is (subst (IsLabel c.args.terms.now) c.as_slice.ensures (c.is_label.ensures c.if-not-is_label.false)))

pub returns : goal.returns
returns c = λ _. All-seen (λ (l : NewLabel). IsLabel c.args.terms.now l.label) c.args.labels.now c.loop-label.label-index c.loop-label-test.false c.loop-label.invariant
