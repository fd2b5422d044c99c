use Rattle.std.proofs.Common.{◌≡◌, length, ap, arith, rules}
use Rattle.interpolants.proofs.Marking.{blank-later, blank-whole}
use Rattle.interpolants.proofs.recall.Memo.forget.Goals as goal

pub returns-then-self-clause-blank : goal.returns-then-self-clause-blank
returns-then-self-clause-blank c =
    let q : c.self.inside.marks.len ≡ length c.take_back.new.marks =
    first_of (search rules, omega arith, omega (arith, c.take_back.auto.marks, c.deref_mut.ensures.len, ap length c.deref_mut.ensures.value), grind arith) in
    blank-whole _ c.take_back.new.marks _ 0 1 q c.take_back.ensures (omega arith)

pub returns-clause-blank : goal.returns-clause-blank
returns-clause-blank c = blank-later c.self.inside.marks.items c.self.inside.epoch _ c.self.invariant (omega arith)
