use Rattle.std.proofs.Common.{◌≡◌, ℕ, ◌+◌, ◌≤◌, Bool, true, List, drop, length}
use Rattle.clause_learning.specs.Cuts.{need_in, Closes, GivenNeeded}
use Rattle.clause_learning.proofs.cone.mark_back.Given as goal

abbrev pub invariant-loop-k : goal.invariant-loop-k
invariant-loop-k l = record {
  within : l.k ≤ length l.chains;
  all : length l.marks ≡ l.base + length l.chains;
  given : GivenNeeded l.base l.marks;
  closed : Closes (need_in l.marks) (l.base + l.k) (drop l.k l.chains);
  grown : (k : ℕ) → need_in l.initial.marks k ≡ true → need_in l.marks k ≡ true;
}

abbrev pub decreases-loop-k : goal.decreases-loop-k
decreases-loop-k l = l.k
