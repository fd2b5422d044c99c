use Rattle.std.proofs.Common.{◌≡◌}
use Rattle.call_order.specs.Layers as layers
use Rattle.call_order.specs.Seen.{graph_of}
use Rattle.call_order.proofs.cycles.leading.Given as goal

-- the layers so far
abbrev pub invariant-loop-round : goal.invariant-loop-round
invariant-loop-round l = l.marks.items ≡ layers.layers (graph_of l.calls) l.goal l._round
