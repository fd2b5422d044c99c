use Rattle.std.proofs.Common.{◌≡◌, ℕ, ◌<◌, length, true}
use Rattle.prop.specs.Trues.{listed}
use Rattle.activity_heap.specs.Below.{AreBelow}
use Rattle.activity_heap.proofs.order.Order.new.Given as goal

abbrev pub invariant-loop-number : goal.invariant-loop-number
invariant-loop-number l = record {
  all : (q : ℕ) → q < l.number → listed l.heap.items q ≡ true;
  below : AreBelow l.number l.heap.items;
  places : length l.places.items ≡ l.number;
}
