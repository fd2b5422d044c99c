use Rattle.std.proofs.Common.{subst}
use Rattle.clause_learning.specs.Solve.{IsAnswer}
use Rattle.resolution_log.proofs.Refuting.{lean_refutes}
use Rattle.path_tables.proofs.asking.judged.Goals as goal

pub is_chain-requires-clause-refuted : goal.is_chain-requires-clause-refuted
is_chain-requires-clause-refuted c =
    lean_refutes c.args.query.now.clauses c.in-Unsat.log
    (subst (IsAnswer c.args.query.now.clauses 1000000) c.in-Unsat.is c.requires.answer).0
