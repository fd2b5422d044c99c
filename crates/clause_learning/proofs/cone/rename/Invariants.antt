use Rattle.std.proofs.Common.{◌≡◌, ◌++◌, List, drop, length}
use Rattle.resolution_log.specs.Cones.{anew, rank}
use Rattle.clause_learning.specs.Cuts.{need_in, PairsBelow}
use Rattle.clause_learning.proofs.cone.rename.Given as goal

abbrev pub invariant-loop-pair : goal.invariant-loop-pair
invariant-loop-pair l = record {
  rest : l.pairs ++ anew (rank (need_in l.cone.marks.items)) (drop l.pair-index l.pair-items) ≡ anew (rank (need_in l.cone.marks.items)) l.chain.pairs;
  below : PairsBelow (length l.cone.marks.items) (drop l.pair-index l.pair-items);
}
