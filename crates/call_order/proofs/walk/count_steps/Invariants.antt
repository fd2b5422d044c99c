use Rattle.std.proofs.Common.{◌≡◌, drop}
use Rattle.call_order.specs.Seen.{graph_of}
use Rattle.call_order.specs.Walks as walks
use Rattle.call_order.proofs.walk.count_steps.Given as goal

-- the calls that are left, counted on, are all
abbrev pub invariant-loop-own : goal.invariant-loop-own
invariant-loop-own l = walks.add_calls l.count (graph_of (drop l.own-index l.calls)) ≡ walks.count_steps (graph_of l.calls)
