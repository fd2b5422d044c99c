use Rattle.std.proofs.Common.{◌≤◌, length}
use Rattle.cover_engine.specs.Steering.{Steered}
use Rattle.explore.specs.Ends.{Follows, IsReady}
use Rattle.explore.proofs.strategy.run.Given as goal

abbrev pub invariant-loop-made : goal.invariant-loop-made
invariant-loop-made g l = record {
  ready : IsReady l.graph l.budget.units l.work.unwinding l.work.witnesses;
  steered : Steered l.graph l.work.unwinding;
  follows : Follows l.graph l.work.unwinding.vertices l.work.beside;
  made : l._made ≤ length l.work.unwinding.journal;
}
