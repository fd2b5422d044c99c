use Rattle.std.proofs.Common.{◌≡◌, All, vec_len}
use Rattle.std.specs.Prelude.{IfSome}
use Rattle.obligations.specs.Questions.{count_of}
use Rattle.cert_build.specs.Answered.{AreLogs, IsStopped}
use Rattle.prove_workers.specs.Working.{IsWorked}
use Rattle.prove_workers.proofs.beside.put_together.Given as goal

abbrev pub invariant-loop-worked : goal.invariant-loop-worked
invariant-loop-worked l =
    All (IsWorked l.task.graph.now l.task.map.now l.task.learn) l.all.items
    × (vec_len l.logs ≡ count_of l.task.graph.now)
    × AreLogs l.task.graph.now l.task.map.now l.task.learn l.logs.items
    × IfSome l.lowest (IsStopped l.task.graph.now l.task.map.now l.task.learn)

abbrev pub decreases-loop-worked : goal.decreases-loop-worked
decreases-loop-worked l = vec_len l.all
