use Rattle.std.proofs.Common.{◌≡◌}
use Rattle.call_order.specs.Layers as layers
use Rattle.call_order.proofs.cycles.first_layer.Given as goal

abbrev pub invariant-loop-i : goal.invariant-loop-i
invariant-loop-i l = l.marks.items ≡ layers.first_layer l.i l.goal
