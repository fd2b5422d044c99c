use Rattle.std.proofs.Common.{◌≤◌}
use Rattle.explore.specs.Standing.{node_at, standing}
use Rattle.explore.proofs.Walks.{Walked}
use Rattle.explore.proofs.beside.Beside.below_of.Given as goal

abbrev pub invariant-loop-place : goal.invariant-loop-place
invariant-loop-place l = record {
  low : l.place ≤ l.fn.v.0;
  walked : Walked l.unwinding.vertices (node_at l.unwinding.vertices l.fn.v.0) l.place l.below.items
      (standing l.unwinding.vertices (node_at l.unwinding.vertices l.fn.v.0) l.fn.v.0);
}

abbrev pub decreases-loop-place : goal.decreases-loop-place
decreases-loop-place l = l.place
