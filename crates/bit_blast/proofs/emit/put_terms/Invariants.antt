use Rattle.std.proofs.Common.{◌≡◌, ◌≤◌, ◌+◌, ◌++◌, length, drop}
use Rattle.bit_blast.specs.Emission.{emitted}
use Rattle.bit_blast.proofs.emit.put_terms.Given as goal

abbrev pub invariant-loop-left : goal.invariant-loop-left
invariant-loop-left l =
    let m = emitted l.one l.cells l.terms.terms l.initial.net.next l.initial.done (drop l.left l.cone) in
    (l.left ≤ length l.cone) × (l.net.start ≡ l.initial.net.start)
    × (l.net.next ≡ l.initial.net.next + length m.defs)
    × (l.net.defs.items ≡ l.initial.net.defs.items ++ m.defs)
    × (l.done ≡ m.done)

abbrev pub decreases-loop-left : goal.decreases-loop-left
decreases-loop-left l = l.left
