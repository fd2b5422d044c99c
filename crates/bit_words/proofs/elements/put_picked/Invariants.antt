use Rattle.std.proofs.Common.{◌≡◌, ◌≤◌, ◌+◌, length, drop, map, ◌++◌}
use Rattle.bit_words.specs.Elements.{picked}
use Rattle.bit_words.proofs.elements.put_picked.Given as goal

abbrev pub invariant-loop-left : goal.invariant-loop-left
invariant-loop-left l =
    let m = picked l.initial.net.next (drop l.left l.places) (drop l.left (map (λ c. c.items) l.cells)) l.z in
    (l.left ≤ length l.places) × (l.net.start ≡ l.initial.net.start)
    × (l.net.next ≡ l.initial.net.next + length m.defs)
    × (l.net.defs.items ≡ l.initial.net.defs.items ++ m.defs)
    × (l.outs.items ≡ m.outs) × (length l.outs.items ≡ length l.z)

abbrev pub decreases-loop-left : goal.decreases-loop-left
decreases-loop-left l = l.left
