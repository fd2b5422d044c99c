use Rattle.std.proofs.Common.{◌≡◌, ◌≤◌, take, length}
use Rattle.bv_term.specs.Values.{values}
use Rattle.bv_term.proofs.table.Terms.values_on.Given as goal

abbrev pub invariant-loop-number : goal.invariant-loop-number
invariant-loop-number l = l.known.items ≡ take l.number (values l.self l.store)
