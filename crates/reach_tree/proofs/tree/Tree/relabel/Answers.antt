use Rattle.std.proofs.Common.{arith, sym, subst, All}
use Rattle.reach_tree.specs.Trees.{Branches, IsLabel}
use Rattle.reach_tree.proofs.Labels.{labels_are, labels_relabelled}
use Rattle.reach_tree.proofs.tree.Tree.relabel.Goals as goal

pub invariant_of-self : goal.invariant_of-self
invariant_of-self c =
    let labels : All (λ l. IsLabel c.self.inside.terms l.label) c.args.labels.items =
    subst (λ (b : Branches). All (λ l. IsLabel b.terms l.label) c.args.labels.items) (sym c.self.view_is) c.requires.labels in (
      omega (arith, c.put_labels.ensures.length, c.self.invariant.0),
      labels_are c.self.inside.terms _ _ c.put_labels.ensures.relabelled (labels_relabelled c.self.inside.terms c.args.labels.items c.self.inside.vertices.items c.self.invariant.1 labels),
    )
