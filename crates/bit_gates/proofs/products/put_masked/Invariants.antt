use Rattle.std.proofs.Common.{◌≡◌, ◌+◌, length, drop, ◌++◌}
use Rattle.bit_gates.specs.Products.{masked}
use Rattle.bit_gates.proofs.products.put_masked.Given as goal

abbrev pub invariant-loop-i : goal.invariant-loop-i
invariant-loop-i l =
    let m = masked l.initial.net.next l.xs l.b in
    let r = masked l.net.next (drop l.i l.xs) l.b in
    (l.net.start ≡ l.initial.net.start)
    × (l.initial.net.next + length m.defs ≡ l.net.next + length r.defs)
    × (l.initial.net.defs.items ++ m.defs ≡ l.net.defs.items ++ r.defs)
    × (m.outs ≡ l.outs.items ++ r.outs)
    × (length l.outs.items ≡ l.i)
