use Rattle.std.proofs.Common.{◌≡◌, ◌+◌, length, drop, map, ◌++◌}
use Rattle.bit_words.specs.Elements.{stored}
use Rattle.bit_words.proofs.elements.put_stored.Given as goal

abbrev pub invariant-loop-i : goal.invariant-loop-i
invariant-loop-i l =
    let cs = map (λ c. c.items) l.cells in
    let m = stored l.one l.initial.net.next l.places cs l.value in
    let r = stored l.one l.net.next (drop l.i l.places) (drop l.i cs) l.value in
    (l.net.start ≡ l.initial.net.start)
    × (l.initial.net.next + length m.defs ≡ l.net.next + length r.defs)
    × (l.initial.net.defs.items ++ m.defs ≡ l.net.defs.items ++ r.defs)
    × (m.cells ≡ map (λ c. c.items) l.outs.items ++ r.cells)
