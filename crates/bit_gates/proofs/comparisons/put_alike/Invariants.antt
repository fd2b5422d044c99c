use Rattle.std.proofs.Common.{◌≡◌, ◌+◌, length, drop, ◌++◌}
use Rattle.bit_gates.specs.Orders.{alike}
use Rattle.bit_gates.proofs.comparisons.put_alike.Given as goal

abbrev pub invariant-loop-i : goal.invariant-loop-i
invariant-loop-i l =
    let m = alike l.initial.net.next l.fn.so_far l.xs l.ys in
    let r = alike l.net.next l.same (drop l.i l.xs) (drop l.i l.ys) in
    (l.net.start ≡ l.initial.net.start)
    × (l.initial.net.next + length m.defs ≡ l.net.next + length r.defs)
    × (l.initial.net.defs.items ++ m.defs ≡ l.net.defs.items ++ r.defs)
    × (m.out ≡ r.out)
