use Rattle.std.proofs.Common.{◌≡◌, ◌-◌}
use Rattle.call_order.specs.Seen.{walk_of}
use Rattle.call_order.specs.Walks as walks
use Rattle.call_order.proofs.walk.close.Given as goal

-- closing on from here is closing the part
abbrev pub invariant-loop-open : goal.invariant-loop-open
invariant-loop-open l = walks.closing (l._open-end - l._open) l.function (walk_of l.walk) ≡ walks.close l.function (walk_of l.initial.walk)
