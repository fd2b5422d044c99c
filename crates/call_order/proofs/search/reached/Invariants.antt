use Rattle.call_order.specs.Apart as apart
use Rattle.call_order.specs.Seen.{graph_of}
use Rattle.call_order.proofs.search.reached.Given as goal

-- calls lead to each function that is marked so far
abbrev pub invariant-loop-call : goal.invariant-loop-call
invariant-loop-call l = apart.AreReached (graph_of l.calls) l.start l.search.marks.items
