use Rattle.check_workers.proofs.verdict.failure_at.Given as goal

abbrev pub invariant-loop-failure : goal.invariant-loop-failure
invariant-loop-failure l = Unit {0}
