use Rattle.std.proofs.Common.{◌≡◌, ◌<◌, ◌≤◌, ◌++◌, ◌∷◌, [], length, ℕ, List, arith, ap, ◌∙◌, sym}
use Rattle.bv_term.specs.WellFormed.{IsTable}
use Rattle.bv_term.proofs.Continuing.{next-value, seen-table, values-all}
use Rattle.bv_term.proofs.table.Terms.values_on.Goals as goal

pub value_after-value-requires-clause-count : goal.value_after-value-requires-clause-count
value_after-value-requires-clause-count c =
    let v : length c.self.inside.terms.items ≡ length c.args.self.now.terms = ap (λ t. length t.terms) c.self.view_is in
    (next-value c.args.self.now c.args.store.now c.deref.result.now c.loop-number.number (seen-table _ _ _ c.self.view_is c.self.invariant.table) c.requires.store
    (omega (arith, v, c.loop-number-test.true, c.len-number-end.ensures)) (c.deref.ensures.value ∙ c.loop-number.invariant)).0

pub value_after-value-requires-clause-below : goal.value_after-value-requires-clause-below
value_after-value-requires-clause-below c =
    let v : length c.self.inside.terms.items ≡ length c.args.self.now.terms = ap (λ t. length t.terms) c.self.view_is in
    (next-value c.args.self.now c.args.store.now c.deref.result.now c.loop-number.number (seen-table _ _ _ c.self.view_is c.self.invariant.table) c.requires.store
    (omega (arith, v, c.loop-number-test.true, c.len-number-end.ensures)) (c.deref.ensures.value ∙ c.loop-number.invariant)).1

pub loop-number-preserved : goal.loop-number-preserved
loop-number-preserved c =
    let v : length c.self.inside.terms.items ≡ length c.args.self.now.terms = ap (λ t. length t.terms) c.self.view_is in
    c.in_ok-push.ensures.items ∙ ap (λ (xs : List ℕ). xs ++ c.value_after-value.result ∷ []) (sym c.deref.ensures.value)
    ∙ (next-value c.args.self.now c.args.store.now c.deref.result.now c.loop-number.number (seen-table _ _ _ c.self.view_is c.self.invariant.table) c.requires.store
    (omega (arith, v, c.loop-number-test.true, c.len-number-end.ensures)) (c.deref.ensures.value ∙ c.loop-number.invariant)).2 c.value_after-value.result c.value_after-value.ensures

pub returns-clause-all : goal.returns-clause-all
returns-clause-all c =
    let v : length c.self.inside.terms.items ≡ length c.args.self.now.terms = ap (λ t. length t.terms) c.self.view_is in
    values-all c.args.self.now c.args.store.now c.loop-number.known.items c.loop-number.number (omega (arith, v, c.loop-number-test.false, c.len-number-end.ensures)) c.loop-number.invariant
