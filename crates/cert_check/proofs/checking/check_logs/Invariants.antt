use Rattle.cert_check.specs.Causes.{AreRefutedBefore}
use Rattle.cert_check.proofs.checking.check_logs.Given as goal

abbrev pub invariant-loop-number : goal.invariant-loop-number
invariant-loop-number l = AreRefutedBefore l.graph l.map l.logs l.number
