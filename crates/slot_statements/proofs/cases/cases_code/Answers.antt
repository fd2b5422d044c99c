use Rattle.std.proofs.Common.{arith, ap, ◌∙◌, ◌++◌}
use Rattle.slot_statements.specs.Casing.{case_count, case_code}
use Rattle.slot_statements.specs.Seen.{mark_of}
use Rattle.slot_statements.proofs.Marking.{left_step, cases_step}
use Rattle.slot_statements.proofs.cases.cases_code.Goals as goal

pub loop-mark-preserved : goal.loop-mark-preserved
loop-mark-preserved c =
    let rest = left_step c.args.model c.args.slot c.args.kind c.args.marks.now c.loop-mark.mark-index c.mark-item.result c.loop-mark.left c.case_count.result c.saturating_sub-left.result (omega arith) c.loop-mark.invariant.left (c.case_count.ensures ∙ ap (λ m. case_count (mark_of m)) c.mark-item.is) c.saturating_sub-left.ensures in
    record {
      code = cases_step c.args.model c.args.slot c.args.kind c.args.marks.now c.loop-mark.mark-index c.mark-item.result c.saturating_sub-left.result c.loop-mark.code.items c.add_case.new.code.items _ (omega arith) rest c.loop-mark.invariant.code (c.in_ok-add_case.ensures ∙ ap (λ m. c.loop-mark.code.items ++ case_code c.args.model c.args.slot c.args.kind c.saturating_sub-left.result (mark_of m)) c.mark-item.is);
      left = rest;
    }
