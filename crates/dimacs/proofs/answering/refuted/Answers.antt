use Rattle.dimacs.proofs.Refutes.{bad_step, no_empty}
use Rattle.dimacs.proofs.answering.refuted.Goals as goal

pub unreachable-requires : goal.unreachable-requires
unreachable-requires c = bad_step c.in-Err-BadStep.field-0 c.in-Err-BadStep.field-0-0 c.in-Err-BadStep.field-0-is (c.in-Err-BadStep.ensures.complete c.requires)
