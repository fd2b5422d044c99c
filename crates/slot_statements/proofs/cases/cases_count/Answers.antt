use Rattle.std.proofs.Common.{arith, ap, ◌∙◌}
use Rattle.slot_statements.specs.Casing.{case_count}
use Rattle.slot_statements.specs.Seen.{mark_of}
use Rattle.slot_statements.proofs.Marking.{count_step}
use Rattle.slot_statements.proofs.cases.cases_count.Goals as goal

pub loop-mark-preserved : goal.loop-mark-preserved
loop-mark-preserved c =
    count_step c.args.marks.now c.loop-mark.mark-index c.mark-item.result c.loop-mark.count c.case_count.result c.in_ok-count.count (omega arith) c.loop-mark.invariant (c.case_count.ensures ∙ ap (λ m. case_count (mark_of m)) c.mark-item.is) c.in_ok-count.ensures.value
