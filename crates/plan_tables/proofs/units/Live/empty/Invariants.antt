use Rattle.std.proofs.Common.{◌≡◌, replicate}
use Rattle.plan_tables.specs.Tables.{lists_of}
use Rattle.plan_tables.proofs.units.Live.empty.Given as goal

abbrev pub invariant-loop-number : goal.invariant-loop-number
invariant-loop-number l = lists_of l.rows.items ≡ replicate l.number (replicate l.words 0)
