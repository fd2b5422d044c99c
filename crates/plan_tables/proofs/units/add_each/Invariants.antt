use Rattle.std.proofs.Common.{◌≡◌, drop}
use Rattle.plan_tables.specs.Made.{add_each}
use Rattle.plan_tables.proofs.units.add_each.Given as goal

abbrev pub invariant-loop-number : goal.invariant-loop-number
invariant-loop-number l = add_each (drop l.number l.units) l.found.items ≡ add_each l.units l.initial.found.items
