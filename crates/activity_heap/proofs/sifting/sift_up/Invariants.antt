use Rattle.std.proofs.Common.{◌≡◌, ℕ, ◌<◌, length, set}
use Rattle.prop.specs.Trues.{listed}
use Rattle.activity_heap.specs.Below.{AreBelow}
use Rattle.activity_heap.proofs.sifting.sift_up.Given as goal

abbrev pub invariant-up : goal.invariant-up
invariant-up l = record {
  at : l.at < length l.heap;
  var : l.var < length l.activities;
  below : AreBelow (length l.activities) l.heap;
  same : (q : ℕ) → listed (set l.heap l.at l.var) q ≡ listed l.initial.heap q;
}

abbrev pub decreases-up : goal.decreases-up
decreases-up l = l.at
