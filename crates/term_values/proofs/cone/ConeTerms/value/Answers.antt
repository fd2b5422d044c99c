use Rattle.std.proofs.Common.{◌∷◌, ◌++◌, [], ℕ, List, arith, ap, sym, ◌∙◌}
use Rattle.term_values.proofs.Reading.{last-known, next-of}
use Rattle.term_values.proofs.cone.ConeTerms.value.Goals as goal

pub next_value-value-requires-clause-there : goal.next_value-value-requires-clause-there
next_value-value-requires-clause-there c =
    (next-of c.args.self.now c.requires.0 c.requires.1 c.self.inside.top c.self.inside.sources.items c.self.inside.shapes c.args.store.now c.deref.result.now
    c.loop-number.number c.self.view_is c.self.invariant (omega (arith, c.loop-number-test.true, c.len-number-end.ensures)) c.requires.2 c.requires.3
    (c.deref.ensures.value ∙ c.loop-number.invariant c.requires.0 c.requires.1 c.requires.2 c.requires.3)).there

pub next_value-value-requires-clause-below : goal.next_value-value-requires-clause-below
next_value-value-requires-clause-below c =
    (next-of c.args.self.now c.requires.0 c.requires.1 c.self.inside.top c.self.inside.sources.items c.self.inside.shapes c.args.store.now c.deref.result.now
    c.loop-number.number c.self.view_is c.self.invariant (omega (arith, c.loop-number-test.true, c.len-number-end.ensures)) c.requires.2 c.requires.3
    (c.deref.ensures.value ∙ c.loop-number.invariant c.requires.0 c.requires.1 c.requires.2 c.requires.3)).below

pub loop-number-preserved : goal.loop-number-preserved
loop-number-preserved c = λ table term h s.
    c.in_ok-push.ensures.items ∙ ap (λ (xs : List ℕ). xs ++ c.next_value-value.result ∷ []) (sym c.deref.ensures.value)
    ∙ (next-of c.args.self.now table term c.self.inside.top c.self.inside.sources.items c.self.inside.shapes c.args.store.now c.deref.result.now
    c.loop-number.number c.self.view_is c.self.invariant (omega (arith, c.loop-number-test.true, c.len-number-end.ensures)) h s
    (c.deref.ensures.value ∙ c.loop-number.invariant table term h s)).more c.next_value-value.result c.index.result.now c.index.ensures c.next_value-value.ensures

pub returns : goal.returns
returns c = λ table term h s.
    last-known c.args.self.now table term c.self.inside.top c.self.inside.sources.items c.self.inside.shapes c.args.store.now c.deref-2.result.now c.loop-number.number
    c.number_at.result c.self.view_is c.self.invariant (omega (arith, c.loop-number-test.false, c.len-number-end.ensures)) h
    (c.deref-2.ensures.value ∙ c.loop-number.invariant table term h s) c.number_at.ensures
