use Rattle.std.proofs.Common.{◌≡◌, ℕ, List, drop, length}
use Rattle.clause_learning.specs.Cuts.{mark_pairs, mark_chain, PairsBelow}
use Rattle.clause_learning.proofs.cone.mark.Given as goal

abbrev pub invariant-loop-pair : goal.invariant-loop-pair
invariant-loop-pair l = record {
  rest : mark_pairs (drop l.pair-index l.pair-items) l.marks ≡ mark_chain l.fn.chain l.fn.marks;
  below : PairsBelow (length l.marks) (drop l.pair-index l.pair-items);
}
