use Rattle.std.proofs.Common.{◌≡◌, ◌+◌, length, drop, ◌++◌}
use Rattle.bit_gates.specs.Shifts.{filled}
use Rattle.bit_gates.proofs.shifters.put_filled.Given as goal

abbrev pub invariant-loop-i : goal.invariant-loop-i
invariant-loop-i l =
    let m = filled l.initial.net.next l.c l.xs l.z in
    let r = filled l.net.next l.c (drop l.i l.xs) l.z in
    (l.net.start ≡ l.initial.net.start)
    × (l.initial.net.next + length m.defs ≡ l.net.next + length r.defs)
    × (l.initial.net.defs.items ++ m.defs ≡ l.net.defs.items ++ r.defs)
    × (m.outs ≡ l.outs.items ++ r.outs)
    × (length l.outs.items ≡ l.i)
