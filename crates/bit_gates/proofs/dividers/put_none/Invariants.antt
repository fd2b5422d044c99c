use Rattle.std.proofs.Common.{◌≡◌, ◌+◌, length, drop, ◌++◌}
use Rattle.bit_gates.specs.Quotients.{none_of}
use Rattle.bit_gates.proofs.dividers.put_none.Given as goal

abbrev pub invariant-loop-i : goal.invariant-loop-i
invariant-loop-i l =
    let m = none_of l.initial.net.next l.fn.z l.b in
    let r = none_of l.net.next l.all (drop l.i l.b) in
    (l.net.start ≡ l.initial.net.start)
    × (l.initial.net.next + length m.defs ≡ l.net.next + length r.defs)
    × (l.initial.net.defs.items ++ m.defs ≡ l.net.defs.items ++ r.defs)
    × (m.out ≡ r.out)
