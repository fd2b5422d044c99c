use Rattle.std.proofs.Common.{◌≡◌, ◌+◌, All, IfOk, vec_len}
use Rattle.work_claims.specs.Seats.{IsOf}
use Rattle.host_tests.proofs.claiming.gathered.Given as goal

abbrev pub invariant-loop-one : goal.invariant-loop-one
invariant-loop-one l =
    All (λ r. IfOk r (λ d. IsOf l.claims d.me)) l.drawn.items
    × All (IsOf l.claims) l.claimers.items
    × (vec_len l.claimers + vec_len l.drawn ≡ vec_len l.initial.drawn)

abbrev pub decreases-loop-one : goal.decreases-loop-one
decreases-loop-one l = vec_len l.drawn
