use Rattle.std.proofs.Common.{arith, ap, ◌∙◌}
use Rattle.step_values.specs.Seen.{values}
use Rattle.step_values.proofs.Arms.{parts_step, values_behind}
use Rattle.step_values.proofs.values.add_parts.Goals as goal

pub loop-part-preserved : goal.loop-part-preserved
loop-part-preserved c =
    parts_step c.args.parts.now c.loop-part.part-index c.part-item.result (values c.args.found.now.items) (values c.loop-part.found.items) (values c.push.new.self.items)
    (omega arith) c.part-item.is c.loop-part.invariant (ap values c.in_ok-push.ensures.items ∙ values_behind c.loop-part.found.items _)
