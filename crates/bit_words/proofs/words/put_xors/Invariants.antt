use Rattle.std.proofs.Common.{◌≡◌, ◌+◌, length, drop, ◌++◌}
use Rattle.bit_words.specs.Words.{xors}
use Rattle.bit_words.proofs.words.put_xors.Given as goal

abbrev pub invariant-loop-i : goal.invariant-loop-i
invariant-loop-i l =
    let m = xors l.initial.net.next l.xs l.ys in
    let r = xors l.net.next (drop l.i l.xs) (drop l.i l.ys) in
    (l.net.start ≡ l.initial.net.start)
    × (l.initial.net.next + length m.defs ≡ l.net.next + length r.defs)
    × (l.initial.net.defs.items ++ m.defs ≡ l.net.defs.items ++ r.defs)
    × (m.outs ≡ l.outs.items ++ r.outs)
    × (length l.outs.items ≡ l.i)
