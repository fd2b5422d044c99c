use Rattle.std.proofs.Common.{◌≡◌, drop}
use Rattle.call_order.specs.Peel as peel
use Rattle.call_order.specs.Seen.{graph_of, taking_of}
use Rattle.call_order.proofs.order.guided.Given as goal

-- what is left of the order is the rest of it
abbrev pub invariant-loop-function : goal.invariant-loop-function
invariant-loop-function l = peel.visits (graph_of l.calls) (drop l.function-index l.order) (taking_of l.taking) ≡ peel.guided (graph_of l.calls) l.order
