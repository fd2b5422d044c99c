use Rattle.std.proofs.Common.{None, ap, ◌∙◌}
use Rattle.std.specs.Prelude.{slice_index_or}
use Rattle.slot_values.proofs.Rows.{none_more}
use Rattle.slot_values.proofs.linking.reach.Goals as goal

pub loop-newest-preserved : goal.loop-newest-preserved
loop-newest-preserved c = λ f. ap (λ xs. slice_index_or xs f None) c.in_ok-push.ensures.items ∙ none_more c.loop-newest.newest.items f ∙ c.loop-newest.invariant f
