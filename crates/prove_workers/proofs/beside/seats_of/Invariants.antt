use Rattle.std.proofs.Common.{All, vec_len}
use Rattle.prove_workers.specs.Working.{CanWork}
use Rattle.prove_workers.proofs.beside.seats_of.Given as goal

abbrev pub invariant-loop-me : goal.invariant-loop-me
invariant-loop-me l =
    All (CanWork l.task.graph.now l.task.map.now l.task.learn l.claims) l.claimers.items
    × All (λ s. CanWork l.task.graph.now l.task.map.now l.task.learn l.claims s.me) l.seats.items

abbrev pub decreases-loop-me : goal.decreases-loop-me
decreases-loop-me l = vec_len l.claimers
