use Rattle.std.proofs.Common.{◌≡◌, ◌≤◌, ℕ, length}
use Rattle.resolution_log.specs.Cones.{rank}
use Rattle.clause_learning.specs.Cuts.{need_in, AreRanks}
use Rattle.clause_learning.proofs.cone.ranks.Given as goal

abbrev pub invariant-loop-is_needed : goal.invariant-loop-is_needed
invariant-loop-is_needed l = record {
  ranks : AreRanks (need_in l.marks) l.numbers.items;
  so_far : length l.numbers.items ≡ l.is_needed-index;
  next : l.next ≡ rank (need_in l.marks) l.is_needed-index;
  small : l.next ≤ l.is_needed-index;
}
