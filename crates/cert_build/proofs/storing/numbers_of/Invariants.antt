use Rattle.std.proofs.Common.{◌≡◌, take}
use Rattle.cert_check.specs.Answers.{numbered}
use Rattle.cert_build.proofs.storing.numbers_of.Given as goal

abbrev pub invariant-loop-term : goal.invariant-loop-term
invariant-loop-term l = numbered l.numbers.items ≡ take l.term-index l.terms
