use Rattle.dimacs.proofs.Refutes.{unsat_lean}
use Rattle.dimacs.proofs.answering.tell.Goals as goal

pub refuted-requires : goal.refuted-requires
refuted-requires c =
    c.lean_refutes.ensures c.args.clauses.now c.in-Ok-Unsat.log
    (unsat_lean c.args.clauses.now c.args.learn c.in-Ok-Unsat.field-0 c.in-Ok-Unsat.log c.in-Ok-Unsat.field-0-is c.in-Ok-Unsat.ensures.answer)
