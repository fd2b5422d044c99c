use Rattle.std.proofs.Common.{◌≡◌, ◌+◌, ◌*◌, ◌-◌, length, drop, ◌++◌}
use Rattle.bit_words.specs.Elements.{doubled}
use Rattle.bit_words.proofs.elements.put_doubled.Given as goal

abbrev pub invariant-loop-i : goal.invariant-loop-i
invariant-loop-i l =
    let m = doubled l.initial.net.next l.b l.count l.highs in
    let r = doubled l.net.next l.b (l.count - 2 * l.i) (drop l.i l.highs) in
    (l.net.start ≡ l.initial.net.start)
    × (l.initial.net.next + length m.defs ≡ l.net.next + length r.defs)
    × (l.initial.net.defs.items ++ m.defs ≡ l.net.defs.items ++ r.defs)
    × (m.outs ≡ l.outs.items ++ r.outs)
    × (length l.outs.items ≡ 2 * l.i)
