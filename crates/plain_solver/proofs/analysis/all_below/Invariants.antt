use Rattle.std.proofs.Common.{◌≡◌, drop}
use Rattle.clause_learning.specs.Trail.{below_of}
use Rattle.plain_solver.proofs.analysis.all_below.Given as goal

abbrev pub invariant-loop-m : goal.invariant-loop-m
invariant-loop-m l = below_of l.level l.trail.entries.items l.uip l.clause ≡ below_of l.level l.trail.entries.items l.uip (drop l.m-index l.clause)
