use Rattle.std.proofs.Common.{◌≡◌, drop}
use Rattle.clause_learning.specs.Trail.{added}
use Rattle.plain_solver.proofs.analysis.add_new.Given as goal

abbrev pub invariant-loop-m : goal.invariant-loop-m
invariant-loop-m l = added l.out.items l.l (drop l.m-index l.clause) ≡ added l.initial.out.items l.l l.clause
