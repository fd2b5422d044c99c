use Rattle.std.proofs.Common.{◌≡◌, All}
use Rattle.work_claims.specs.Seats.{hand, IsOf}
use Rattle.prove_workers.specs.Working.{Proves}
use Rattle.prove_workers.proofs.worker.work.Given as goal

abbrev pub invariant-loop : goal.invariant-loop
invariant-loop l = IsOf l.claims l.me × ((hand l.me).finishes ≡ 0) × All (Proves l.task.graph.now l.task.map.now l.task.learn) l.refuted.items
