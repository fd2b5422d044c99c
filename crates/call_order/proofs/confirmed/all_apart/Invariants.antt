use Rattle.std.proofs.Common.{◌≡◌, drop}
use Rattle.call_order.specs.Apart as apart
use Rattle.call_order.specs.Seen.{all_calls}
use Rattle.call_order.proofs.confirmed.all_apart.Given as goal

-- the functions so far are, so what is left decides
abbrev pub invariant-loop-i : goal.invariant-loop-i
invariant-loop-i l = apart.all_apart l.parts l.at l.i (all_calls (drop l.i l.calls)) ≡ apart.all_apart l.parts l.at 0 (all_calls l.calls)
