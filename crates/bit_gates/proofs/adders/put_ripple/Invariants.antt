use Rattle.std.proofs.Common.{◌≡◌, ◌+◌, length, drop, ◌++◌}
use Rattle.bit_gates.specs.Sums.{ripple}
use Rattle.bit_gates.proofs.adders.put_ripple.Given as goal

abbrev pub invariant-loop-i : goal.invariant-loop-i
invariant-loop-i l =
    let m = ripple l.initial.net.next l.xs l.ys l.fn.first in
    let r = ripple l.net.next (drop l.i l.xs) (drop l.i l.ys) l.carry in
    (l.net.start ≡ l.initial.net.start)
    × (l.initial.net.next + length m.defs ≡ l.net.next + length r.defs)
    × (l.initial.net.defs.items ++ m.defs ≡ l.net.defs.items ++ r.defs)
    × (m.outs ≡ l.outs.items ++ r.outs)
    × (m.carry ≡ r.carry)
    × (length l.outs.items ≡ l.i)
