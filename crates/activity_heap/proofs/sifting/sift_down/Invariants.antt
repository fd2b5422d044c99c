use Rattle.std.proofs.Common.{◌≡◌, ℕ, ◌-◌, ◌<◌, length, set}
use Rattle.prop.specs.Trues.{listed}
use Rattle.activity_heap.specs.Below.{AreBelow}
use Rattle.activity_heap.proofs.sifting.sift_down.Given as goal

abbrev pub invariant-down : goal.invariant-down
invariant-down l = record {
  at : l.at < length l.heap;
  var : l.var < length l.activities;
  below : AreBelow (length l.activities) l.heap;
  same : (q : ℕ) → listed (set l.heap l.at l.var) q ≡ listed l.initial.heap q;
}

abbrev pub decreases-down : goal.decreases-down
decreases-down l = length l.initial.heap - l.at
