use Rattle.std.proofs.Common.{◌≡◌, drop, ◌++◌}
use Rattle.prop.specs.Steps.{without}
use Rattle.prop.proofs.step.add_without.Given as goal

abbrev pub invariant-loop-m : goal.invariant-loop-m
invariant-loop-m l = l.out.items ++ without l.l (drop l.m-index l.clause) ≡ l.initial.out.items ++ without l.l l.clause
