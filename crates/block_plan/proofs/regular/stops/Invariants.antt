use Rattle.std.proofs.Common.{◌≡◌, drop}
use Rattle.block_plan.specs.Made.{stops, stops_from}
use Rattle.block_plan.proofs.regular.stops.Given as goal

abbrev pub invariant-loop-number : goal.invariant-loop-number
invariant-loop-number l = stops_from l.number (drop l.number l.ops) l.is_tested ≡ stops l.ops l.is_tested
