use Rattle.std.proofs.Common.{◌≡◌, take}
use Rattle.cert_build.proofs.storing.terms_of.Given as goal

abbrev pub invariant-loop-number : goal.invariant-loop-number
invariant-loop-number l = l.terms.items ≡ take l.number l.table.terms
