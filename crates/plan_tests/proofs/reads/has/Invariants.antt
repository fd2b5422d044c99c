use Rattle.std.proofs.Common.{◌≡◌, drop}
use Rattle.walk_states.specs.Known.{has_unit}
use Rattle.plan_tests.proofs.reads.has.Given as goal

abbrev pub invariant-loop-found : goal.invariant-loop-found
invariant-loop-found l = has_unit l.list l.unit ≡ has_unit (drop l.found-index l.list) l.unit
