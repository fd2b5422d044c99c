use Rattle.std.proofs.Common.{◌≡◌, ◌<◌, All, subst, ◌∙◌, ◌⊎◌, inl, inr, ap, sym, arith, length, List, Bool}
use Rattle.std.proofs.lemmas.List.{append-nil}
use Rattle.prop.specs.Trues.{listed}
use Rattle.c_graph.specs.Shape.{widths_of}
use Rattle.path_query.specs.declared.query.Bundle.{Bundle}
use Rattle.path_laws.specs.Values.{values_read}
use Rattle.refine.specs.Drawn.{IsDrawable}
use Rattle.refine.proofs.Drawing.{draws_fit, values_end}
use Rattle.refine.proofs.values.drawn_values.Goals as goal

pub returns : goal.returns
returns c =
    let widths = widths_of c.args.graph.now.cells in
    let e : c.loop-number.number ≡ c.fewer-number-end.result = omega (arith, c.loop-number-test.false, c.loop-number.auto.number-end) in
    let ends : (c.loop-number.number ≡ length c.as_slice-draws.result.now) ⊎ (c.loop-number.number ≡ length c.in_ok-signs.signs.items) =
    elim c.fewer-number-end.ensures.one [
      | inl a ↦ inl (e ∙ a)
      | inr b ↦ inr (omega (arith, e, b, c.len.ensures))
    ] in
    let all = values_end (widths_of c.args.graph.now.cells) (listed c.args.found.now) c.as_slice-draws.result.now c.in_ok-signs.signs.items
    c.loop-number.values.items _ c.loop-number.number ends c.loop-number.invariant in
    c.new.ensures ∙ sym (append-nil c.loop-number.values.items) ∙ all
    ∙ ap (λ (ss : List Bool). values_read (widths_of c.args.graph.now.cells) (listed c.args.found.now) c.args.query.now.draws ss) c.in_ok-signs.ensures

pub value_of-requires-clause-most : goal.value_of-requires-clause-most
value_of-requires-clause-most c =
    let fit = draws_fit c.args.graph.now c.args.path.now c.args.query.now (length c.args.path.now) c.entry-entry.ensures.flow c.requires.query c.requires.question in
    let low : c.loop-number.number < length c.as_slice-draws.result.now = omega (arith, c.loop-number-test.true, c.fewer-number-end.ensures.left) in
    let all = subst (λ (bs : List Bundle). All (IsDrawable (widths_of c.args.graph.now.cells)) bs) (sym c.as_slice-draws.ensures) fit in
    let here = all c.loop-number.number c.index-draws-number.result low in
    omega (arith, here.2, ap (λ (b : Bundle). length b.bits) c.index-draws-number.is, ap (λ ls. length ls) c.as_slice.ensures)
