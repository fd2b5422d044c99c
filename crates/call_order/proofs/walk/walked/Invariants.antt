use Rattle.std.proofs.Common.{◌≡◌}
use Rattle.call_order.specs.Seen.{graph_of, walk_of}
use Rattle.call_order.specs.Walks as walks
use Rattle.call_order.proofs.walk.walked.Given as goal

-- the steps so far
abbrev pub invariant-loop-step : goal.invariant-loop-step
invariant-loop-step l = walk_of l.walk ≡ walks.steps (graph_of l.calls) l._step (walk_of l.initial.walk)
