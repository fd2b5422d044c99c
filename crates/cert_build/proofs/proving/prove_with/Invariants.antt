use Rattle.std.proofs.Common.{◌≡◌, vec_len}
use Rattle.std.specs.Prelude.{IfSome}
use Rattle.obligations.specs.Questions.{count_of}
use Rattle.cert_build.specs.Answered.{AreLogs, IsStopped}
use Rattle.cert_build.specs.Proofs.{AreProofsTo}
use Rattle.cert_build.proofs.proving.prove_with.Given as goal

abbrev pub invariant-loop-number : goal.invariant-loop-number
invariant-loop-number l = AreProofsTo l.graph l.map l.learn l.number l.logs.items × (vec_len l.known ≡ count_of l.graph) × AreLogs l.graph l.map l.learn l.known.items × IfSome l.stopped (IsStopped l.graph l.map l.learn)
