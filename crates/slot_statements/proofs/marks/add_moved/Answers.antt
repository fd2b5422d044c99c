use Rattle.std.proofs.Common.{arith, ap, ◌∙◌, [], ◌∷◌}
use Rattle.slot_code.specs.Statements.{moved}
use Rattle.slot_statements.specs.Seen.{mark_of, marks_of}
use Rattle.slot_statements.proofs.Marking.{moved_step, marks_behind}
use Rattle.slot_statements.proofs.marks.add_moved.Goals as goal

pub loop-mark-preserved : goal.loop-mark-preserved
loop-mark-preserved c =
    moved_step c.args.count c.args.marks.now c.loop-mark.mark-index c.mark-item.result c.in_ok-own.own (marks_of c.args.all.now.items) (marks_of c.loop-mark.all.items) (marks_of c.push.new.self.items)
    (omega arith) c.loop-mark.invariant (c.in_ok-own.ensures ∙ ap (λ m. moved c.args.count (mark_of m ∷ [])) c.mark-item.is) (ap marks_of c.in_ok-push.ensures.items ∙ marks_behind c.loop-mark.all.items c.in_ok-own.own)
