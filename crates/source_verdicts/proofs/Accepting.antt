-- What is written of a proof is accepted.
use Rattle.cert_verdicts.proofs.Unique.{certificate_is_accepted}
use Rattle.source_verdicts.specs.Laws.{WrittenIsAccepted}

pub written_is_accepted : WrittenIsAccepted
written_is_accepted g source model text proved v judged = certificate_is_accepted g source model text proved.cert v proved.read proved.is judged
