use Rattle.reach_tree.proofs.Labels.{labels_put}
use Rattle.reach_tree.proofs.tree.Tree.put.Goals as goal

pub invariant_of-self : goal.invariant_of-self
invariant_of-self c =
    (c.self.invariant.0, labels_put c.put.result c.self.inside.terms c.put.new.self c.args.term c.self.inside.vertices.items c.put.ensures.put c.put.ensures.unchanged c.self.invariant.1)
