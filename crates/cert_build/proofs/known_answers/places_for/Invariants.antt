use Rattle.std.proofs.Common.{◌≡◌, None, replicate}
use Rattle.cert_build.proofs.known_answers.places_for.Given as goal

abbrev pub invariant-loop : goal.invariant-loop
invariant-loop l = l.logs.items ≡ replicate l.counter None
