use Rattle.std.proofs.Common.{◌≡◌, length}
use Rattle.invariant_map.specs.Labels.{AreLabelsMarked}
use Rattle.invariant_map.proofs.marking.mark_labels.Given as goal

abbrev pub invariant-loop-number : goal.invariant-loop-number
invariant-loop-number l = record {
  sized : length l.marks ≡ length l.initial.marks;
  marked : AreLabelsMarked l.unwinding l.nodes l.marks l.number;
}
