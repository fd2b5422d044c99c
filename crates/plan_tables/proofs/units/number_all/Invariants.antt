use Rattle.std.proofs.Common.{◌≡◌, drop}
use Rattle.plan_tables.specs.Made.{all_numbered, nothing_numbered}
use Rattle.plan_tables.proofs.units.number_all.Given as goal

abbrev pub invariant-loop-number : goal.invariant-loop-number
invariant-loop-number l = all_numbered l.found (drop l.number l.cells) ≡ all_numbered nothing_numbered l.cells
