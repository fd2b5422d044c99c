use Rattle.std.proofs.Common.{arith, ap, ◌∙◌, [], ◌∷◌}
use Rattle.slot_code.specs.Statements.{default_in}
use Rattle.slot_statements.specs.Seen.{mark_of}
use Rattle.slot_statements.proofs.Marking.{default_step}
use Rattle.slot_statements.proofs.marks.default_in.Goals as goal

pub loop-mark-preserved : goal.loop-mark-preserved
loop-mark-preserved c =
    default_step c.args.marks.now c.loop-mark.mark-index c.mark-item.result c.loop-mark.found c.defaulted.result c.first-found.result (omega arith) c.loop-mark.invariant (c.defaulted.ensures ∙ ap (λ m. default_in (mark_of m ∷ [])) c.mark-item.is) c.first-found.ensures
