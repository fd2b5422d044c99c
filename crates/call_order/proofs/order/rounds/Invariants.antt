use Rattle.std.proofs.Common.{◌≡◌}
use Rattle.call_order.specs.Peel as peel
use Rattle.call_order.specs.Seen.{graph_of, taking_of}
use Rattle.call_order.proofs.order.rounds.Given as goal

-- the rounds so far
abbrev pub invariant-loop-round : goal.invariant-loop-round
invariant-loop-round l = taking_of l.taking ≡ peel.rounds (graph_of l.calls) l._round (taking_of l.initial.taking)
