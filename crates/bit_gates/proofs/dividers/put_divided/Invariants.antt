use Rattle.std.proofs.Common.{◌≡◌, ◌+◌, ◌≤◌, length, drop, reverse, ◌++◌}
use Rattle.bit_gates.specs.Quotients.{divided}
use Rattle.bit_gates.proofs.dividers.put_divided.Given as goal

abbrev pub invariant-loop-left : goal.invariant-loop-left
invariant-loop-left l =
    let m = divided l.initial.net.next l.one (drop l.left l.xs) l.b in
    (l.left ≤ length l.xs) × (l.net.start ≡ l.initial.net.start)
    × (l.net.next ≡ l.initial.net.next + length m.defs)
    × (l.net.defs.items ≡ l.initial.net.defs.items ++ m.defs)
    × (reverse l.quot.items ≡ m.quot) × (l.rest.items ≡ m.rest) × (length l.rest.items ≡ length l.nb.items)

abbrev pub decreases-loop-left : goal.decreases-loop-left
decreases-loop-left l = l.left
