use Rattle.std.proofs.Common.{◌≡◌, ◌<◌, None, Some, length, reverse}
use Rattle.cover_engine.specs.Unwindings.{path_of, vertices_named}
use Rattle.cover_engine.specs.Steering.{Steered}
use Rattle.unwinding_laws.specs.Steered.{last_refined}
use Rattle.explore.specs.Ends.{Follows, IsReady}
use Rattle.explore.proofs.strategy.refine_at.Given as goal

abbrev pub invariant-loop-vertex : goal.invariant-loop-vertex
invariant-loop-vertex g l = record {
  ready : IsReady l.graph l.budget.units l.work.unwinding l.work.witnesses;
  steered : Steered l.graph l.work.unwinding;
  follows : Follows l.graph l.work.unwinding.vertices l.work.beside;
  refined : last_refined None l.work.unwinding.journal ≡ Some l.fn.leaf;
  path : l.vertex-items ≡ vertices_named (reverse (path_of l.work.unwinding.vertices l.fn.leaf));
  there : l.fn.leaf.0 < length l.work.unwinding.vertices;
  grows : length l.fn.work.unwinding.journal < length l.work.unwinding.journal;
}
