use Rattle.std.proofs.Common.{arith, ap, ◌∙◌, [], ◌∷◌, ◌++◌}
use Rattle.slot_code.specs.Statements.{labels_alone}
use Rattle.slot_statements.specs.Seen.{mark_of, marks_of}
use Rattle.slot_statements.proofs.Marking.{labels_step}
use Rattle.slot_statements.proofs.marks.labels_alone.Goals as goal

pub loop-mark-preserved : goal.loop-mark-preserved
loop-mark-preserved c =
    labels_step c.args.marks.now c.loop-mark.mark-index c.mark-item.result (marks_of c.loop-mark.all.items) (marks_of c.add_label.new.all.items) (omega arith) c.loop-mark.invariant (c.in_ok-add_label.ensures ∙ ap (λ m. marks_of c.loop-mark.all.items ++ labels_alone (mark_of m ∷ [])) c.mark-item.is)
