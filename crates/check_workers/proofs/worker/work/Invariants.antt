use Rattle.std.proofs.Common.{◌≡◌}
use Rattle.work_claims.specs.Seats.{hand, IsOf}
use Rattle.check_workers.specs.Working.{HavePassed}
use Rattle.check_workers.proofs.worker.work.Given as goal

abbrev pub invariant-loop : goal.invariant-loop
invariant-loop l = IsOf l.claims l.me × ((hand l.me).finishes ≡ 0) × HavePassed l.task.graph.now l.task.map.now l.task.logs.now (hand l.me)
