use Rattle.std.proofs.Common.{◌≡◌, ◌+◌, ◌≤◌, length, drop, ◌++◌}
use Rattle.bit_gates.specs.Products.{product}
use Rattle.bit_gates.proofs.products.put_product.Given as goal

abbrev pub invariant-loop-left : goal.invariant-loop-left
invariant-loop-left l =
    let m = product l.initial.net.next l.a l.xs (drop l.left l.ys) in
    (l.left ≤ length l.ys) × (l.net.start ≡ l.initial.net.start)
    × (l.net.next ≡ l.initial.net.next + length m.defs)
    × (l.net.defs.items ≡ l.initial.net.defs.items ++ m.defs)
    × (l.low.items ≡ m.outs) × (length l.low.items + l.left ≡ length l.ys)

abbrev pub decreases-loop-left : goal.decreases-loop-left
decreases-loop-left l = l.left
