use Rattle.std.proofs.Common.{◌≡◌, ◌≤◌, None, length, vec_len}
use Rattle.cover_engine.specs.Steering.{IsHighestOpen, Steered}
use Rattle.unwinding_laws.specs.Steered.{last_refined}
use Rattle.explore.specs.Settling.{AreLeft, HasTurn}
use Rattle.explore.specs.Ends.{Follows, IsReady}
use Rattle.explore.proofs.strategy.settle_all.Given as goal

abbrev pub invariant-loop-w : goal.invariant-loop-w
invariant-loop-w g l = record {
  ready : IsReady l.graph l.budget.units l.work.unwinding l.work.witnesses;
  steered : Steered l.graph l.work.unwinding;
  follows : Follows l.graph l.work.unwinding.vertices l.work.beside;
  turn : HasTurn l.graph l.work.unwinding l.v;
  left : AreLeft l.work.unwinding l.v l.below.items;
  grows : length l.fn.work.unwinding.journal ≤ length l.work.unwinding.journal;
  vertices : l.work.unwinding.vertices ≡ l.fn.work.unwinding.vertices;
  refined : last_refined None l.work.unwinding.journal ≡ last_refined None l.fn.work.unwinding.journal;
  highest : IsHighestOpen l.graph l.fn.work.unwinding l.v → IsHighestOpen l.graph l.work.unwinding l.v;
}

abbrev pub decreases-loop-w : goal.decreases-loop-w
decreases-loop-w g l = vec_len l.below
