use Rattle.std.proofs.Common.{◌≡◌}
use Rattle.work_claims.specs.Seats.{hand, IsOf}
use Rattle.host_tests.proofs.claiming.draw.Given as goal

abbrev pub invariant-loop : goal.invariant-loop
invariant-loop l = IsOf l.claims l.me × ((hand l.me).finishes ≡ 0)
