use Rattle.std.proofs.Common.{◌≡◌, ◌+◌, length, drop, ◌++◌, []}
use Rattle.bit_words.specs.Folding.{folded}
use Rattle.bit_words.proofs.folding.fold_all.Given as goal

abbrev pub invariant-loop-def : goal.invariant-loop-def
invariant-loop-def l =
    let m = folded l.one l.base l.initial.net.next [] l.defs in
    let r = folded l.one l.base l.net.next l.subs.items (drop l.def-index l.defs) in
    (l.net.start ≡ l.initial.net.start)
    × (l.initial.net.next + length m.defs ≡ l.net.next + length r.defs)
    × (l.initial.net.defs.items ++ m.defs ≡ l.net.defs.items ++ r.defs)
    × (m.subs ≡ r.subs)
