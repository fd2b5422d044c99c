use Rattle.std.proofs.Common.{◌≡◌, ◌<◌, List, length, slice_get, IfOk, Some, sym, ap, subst, ◌∙◌, arith}
use Rattle.bv_term.specs.declared.term.TermId.{TermId}
use Rattle.bv_term.specs.declared.term.Term.{Term}
use Rattle.bv_term.specs.WellFormed.{FitsTable}
use Rattle.invariant_map.specs.Copies.{moved}
use Rattle.invariant_map.proofs.Moves.{each_map}
use Rattle.invariant_map.proofs.Copies.{operands_below, copy_fits, copy_result}
use Rattle.invariant_map.proofs.copying.put_copy.Goals as goal

pub moved-copy-requires : goal.moved-copy-requires
moved-copy-requires c =
    let long : length c.deref.result.now ≡ c.args.number = ap length c.deref.ensures.value ∙ c.requires.places in
    each_map (λ j. j < c.args.number) (λ j. j < length c.deref.result.now) c.get.result (λ j h. omega (arith, h, long))
    (operands_below c.args.from.now c.args.number c.get.result c.count-count.ensures.table c.get.ensures)

pub put_term-requires : goal.put_term-requires
put_term-requires c =
    let e : c.moved-copy.result ≡ moved c.args.places.now.items c.get.result = c.moved-copy.ensures ∙ ap (λ (ps : List TermId). moved ps c.get.result) c.deref.ensures.value in
    subst (λ (t : Term). FitsTable c.args.terms.now t) (sym e)
    (copy_fits c.args.from.now c.args.terms.now c.args.places.now.items c.args.number c.get.result c.count-count.ensures.table c.get.ensures c.requires.cells c.requires.copies)

pub returns-clause-copy : goal.returns-clause-copy
returns-clause-copy c =
    let e : c.moved-copy.result ≡ moved c.args.places.now.items c.get.result = c.moved-copy.ensures ∙ ap (λ (ps : List TermId). moved ps c.get.result) c.deref.ensures.value in
    let named : IfOk c.put_term.result (λ id. slice_get c.put_term.new.terms.terms id.0 ≡ Some (moved c.args.places.now.items c.get.result)) =
    subst (λ (t : Term). IfOk c.put_term.result (λ id. slice_get c.put_term.new.terms.terms id.0 ≡ Some t)) e c.put_term.ensures.named in
    copy_result c.put_term.result c.args.from.now c.args.terms.now c.put_term.new.terms c.args.places.now.items c.args.number c.get.result
    c.count-count.ensures.table c.get.ensures (c.put_term.ensures.extends.0 ∙ c.requires.cells) c.requires.copies c.put_term.ensures.extends c.put_term.ensures.table named
