use Rattle.std.proofs.Common.{◌≡◌, length, drop, ◌++◌}
use Rattle.bit_gates.specs.Quotients.{shifted}
use Rattle.bit_gates.proofs.dividers.shift_in.Given as goal

abbrev pub invariant-loop-i : goal.invariant-loop-i
invariant-loop-i l =
    let m = shifted l.fn.a l.xs in
    let r = shifted l.top (drop l.i l.xs) in
    (m.low ≡ l.low.items ++ r.low) × (m.top ≡ r.top) × (length l.low.items ≡ l.i)
