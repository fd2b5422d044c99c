use Rattle.std.proofs.Common.{◌≡◌, drop}
use Rattle.call_order.specs.Peel as peel
use Rattle.call_order.specs.Seen.{graph_of, taking_of}
use Rattle.call_order.proofs.order.round.Given as goal

-- what is left of the round is the rest of it
abbrev pub invariant-loop-i : goal.invariant-loop-i
invariant-loop-i l = peel.round l.i (graph_of (drop l.i l.calls)) (taking_of l.taking) ≡ peel.round 0 (graph_of l.calls) (taking_of l.initial.taking)
