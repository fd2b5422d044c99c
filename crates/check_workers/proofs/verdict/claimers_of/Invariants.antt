use Rattle.std.proofs.Common.{◌≡◌, ◌+◌, All, vec_len}
use Rattle.check_workers.specs.Working.{IsEnded}
use Rattle.check_workers.proofs.verdict.claimers_of.Given as goal

abbrev pub invariant-loop-one : goal.invariant-loop-one
invariant-loop-one l =
    All (λ w. IsEnded l.task.graph.now l.task.map.now l.task.logs.now l.claims w.me) l.worked.items
    × All (IsEnded l.task.graph.now l.task.map.now l.task.logs.now l.claims) l.claimers.items
    × (vec_len l.claimers + vec_len l.worked ≡ vec_len l.initial.worked)

abbrev pub decreases-loop-one : goal.decreases-loop-one
decreases-loop-one l = vec_len l.worked
