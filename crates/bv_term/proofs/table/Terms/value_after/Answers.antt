use Rattle.std.proofs.Common.{◌≡◌, length, ℕ, List, arith, ap, ◌∙◌, sym, take}
use Rattle.std.proofs.lemmas.List.{length-take-le}
use Rattle.bv_term.specs.declared.term.Term.{Term}
use Rattle.bv_term.specs.WellFormed.{widths}
use Rattle.bv_term.specs.Values.{value_in}
use Rattle.bv_term.proofs.Growing.{kept-widths}
use Rattle.bv_term.proofs.Continuing.{known-at}
use Rattle.bv_term.proofs.table.Terms.value_after.Goals as goal

pub slice_bounds-value_over-end : goal.slice_bounds-value_over-end
slice_bounds-value_over-end c =
    let k = kept-widths _ _ _ c.self.invariant.table c.self.invariant.widths in
    let e : length c.deref.result.now ≡ length c.self.inside.widths.items = ap length c.deref.ensures.value in
    let v : length c.self.inside.terms.items ≡ length c.args.self.now.terms = ap (λ t. length t.terms) c.self.view_is in
    sym (length-take-le c.args.term.0 c.deref.result.now (omega (arith, k.0, e, v, c.requires.there)))

pub value_over-requires-clause-fits : goal.value_over-requires-clause-fits
value_over-requires-clause-fits c = (known-at c.args.self.now c.self.inside.cells.items c.self.inside.widths.items c.deref.result.now c.self.inside.terms.items c.args.term.0 c.index.result.now c.self.invariant.table c.self.invariant.widths c.self.view_is c.deref.ensures.value c.requires.there c.index.ensures).0

pub value_over-requires-clause-lengths : goal.value_over-requires-clause-lengths
value_over-requires-clause-lengths c = c.requires.count ∙ sym (known-at c.args.self.now c.self.inside.cells.items c.self.inside.widths.items c.deref.result.now c.self.inside.terms.items c.args.term.0 c.index.result.now c.self.invariant.table c.self.invariant.widths c.self.view_is c.deref.ensures.value c.requires.there c.index.ensures).2

pub value_over-requires-clause-widths : goal.value_over-requires-clause-widths
value_over-requires-clause-widths c = (known-at c.args.self.now c.self.inside.cells.items c.self.inside.widths.items c.deref.result.now c.self.inside.terms.items c.args.term.0 c.index.result.now c.self.invariant.table c.self.invariant.widths c.self.view_is c.deref.ensures.value c.requires.there c.index.ensures).1

pub returns : goal.returns
returns c t g =
    let k = known-at c.args.self.now c.self.inside.cells.items c.self.inside.widths.items c.deref.result.now c.self.inside.terms.items c.args.term.0 c.index.result.now c.self.invariant.table c.self.invariant.widths c.self.view_is c.deref.ensures.value c.requires.there c.index.ensures in
    c.value_over.ensures
    ∙ ap (λ (w : List ℕ). value_in c.args.store.now w c.args.before.now c.index.result.now) k.3
    ∙ ap (λ (u : Term). value_in c.args.store.now (take c.args.term.0 (widths c.args.self.now)) c.args.before.now u) (k.4 t g)
