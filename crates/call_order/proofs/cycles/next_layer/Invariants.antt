use Rattle.std.proofs.Common.{◌≡◌, ◌++◌, drop}
use Rattle.call_order.specs.Layers as layers
use Rattle.call_order.specs.Seen.{graph_of}
use Rattle.call_order.proofs.cycles.next_layer.Given as goal

-- the marks so far and those of what is left are all
abbrev pub invariant-loop-i : goal.invariant-loop-i
invariant-loop-i l = l.marks.items ++ layers.layer_from l.i (graph_of (drop l.i l.calls)) l.goal l.before ≡ layers.next_layer (graph_of l.calls) l.goal l.before
