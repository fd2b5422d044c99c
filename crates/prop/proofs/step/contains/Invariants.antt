use Rattle.std.proofs.Common.{◌≡◌, drop}
use Rattle.prop.specs.Steps.{has}
use Rattle.prop.proofs.step.contains.Given as goal

abbrev pub invariant-loop-m : goal.invariant-loop-m
invariant-loop-m l = has l.clause l.l ≡ has (drop l.m-index l.clause) l.l
