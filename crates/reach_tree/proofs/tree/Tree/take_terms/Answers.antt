use Rattle.reach_tree.proofs.Labels.{labels_stay}
use Rattle.reach_tree.proofs.tree.Tree.take_terms.Goals as goal

pub invariant_of-self : goal.invariant_of-self
invariant_of-self c =
    (c.self.invariant.0, labels_stay c.self.inside.terms c.copied.new.into c.self.inside.vertices.items c.copied.ensures.extends c.self.invariant.1)
