use Rattle.std.proofs.Common.{◌≡◌, All, vec_len}
use Rattle.obligations.specs.Questions.{count_of}
use Rattle.cert_build.specs.Answered.{AreLogs}
use Rattle.prove_workers.specs.Working.{Proves}
use Rattle.prove_workers.proofs.beside.place_all.Given as goal

abbrev pub invariant-loop-one : goal.invariant-loop-one
invariant-loop-one l =
    All (Proves l.task.graph.now l.task.map.now l.task.learn) l.refuted.items
    × (vec_len l.logs ≡ count_of l.task.graph.now)
    × AreLogs l.task.graph.now l.task.map.now l.task.learn l.logs.items

abbrev pub decreases-loop-one : goal.decreases-loop-one
decreases-loop-one l = vec_len l.refuted
