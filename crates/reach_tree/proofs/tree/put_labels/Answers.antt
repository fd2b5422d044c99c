use Rattle.std.proofs.Common.{◌∙◌}
use Rattle.reach_tree.proofs.Growth.{relabelled-put}
use Rattle.reach_tree.proofs.tree.put_labels.Goals as goal

pub loop-new_label-preserved : goal.loop-new_label-preserved
loop-new_label-preserved c =
    (relabelled-put _ c.loop-new_label.vertices.items _ c.loop-new_label.yielded c.in-Some.new_label c.loop-new_label.invariant.0 c.put_label.ensures.relabelled, c.put_label.ensures.length ∙ c.loop-new_label.invariant.1)
