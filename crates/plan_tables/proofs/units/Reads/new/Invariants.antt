use Rattle.std.proofs.Common.{◌≡◌, [], drop}
use Rattle.plan_tables.specs.Tables.{lists_of}
use Rattle.plan_tables.specs.Made.{reads_from}
use Rattle.plan_tables.proofs.units.Reads.new.Given as goal

abbrev pub invariant-loop-number : goal.invariant-loop-number
invariant-loop-number l = reads_from l.units (lists_of l.lists.items) (drop l.number l.terms.terms) ≡ reads_from l.units [] l.terms.terms
