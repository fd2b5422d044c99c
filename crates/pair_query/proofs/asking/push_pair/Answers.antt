use Rattle.std.proofs.Common.{◌≡◌, ◌∙◌, ap, List, Result, Ok, Err}
use Rattle.std.specs.Prelude.{OnOk}
use Rattle.prop.specs.declared.Lit.{Lit}
use Rattle.bit_blast.specs.Held.{Held}
use Rattle.std.proofs.lemmas.Result.{err_from_is_err_and}
use Rattle.pair_query.proofs.Blasting.{cells_stay}
use Rattle.pair_query.proofs.PairCuts.{closing_off, label_off, others_off, units_off}
use Rattle.pair_query.proofs.asking.push_pair.Goals as goal

on_ok : {A E : Type 0} (r : Result A E) (x y z : List (List Lit)) → OnOk r (x ≡ y) → y ≡ z → OnOk r (x ≡ z)
on_ok (Ok a) x y z h e = h ∙ e
on_ok (Err a) x y z h e = tt

pub returns-clause-cells : goal.returns-clause-cells
returns-clause-cells c =
    let t = c.args.terms.now in
    on_ok c.push_closing.result c.push_closing.new.bits.cells c.blast_each-2.new.bits.cells c.args.bits.now.cells c.push_closing.ensures.cells
    (ap (λ (h : Held). h.cells) c.in_ok-others.ensures.held ∙ (cells_stay t c.args.right.now c.blast_each.new.bits
    ∙ (ap (λ (h : Held). h.cells) c.in_ok-holds.ensures.held ∙ cells_stay t c.args.left.now c.args.bits.now)))

-- the clauses of the first label, its literals, the clauses of the second, and what closes
pub returns-in_err-holds-clause-cut : goal.returns-in_err-holds-clause-cut
returns-in_err-holds-clause-cut c =
    let r = err_from_is_err_and c.from_residual.result c.from_residual.ensures.1 in
    rw (r.1, r.2)
    (label_off c.args.terms.now c.args.left.now c.args.right.now c.args.bits.now c.in_err-holds.field-0.0 c.args.clauses.now c.blast_each.new.clauses c.in_err-holds.ensures.cut)

pub returns-in_err-push_units-clause-cut : goal.returns-in_err-push_units-clause-cut
returns-in_err-push_units-clause-cut c =
    let r = err_from_is_err_and c.from_residual-in_err-push_units.result c.from_residual-in_err-push_units.ensures.1 in
    rw (r.1, r.2)
    (units_off c.args.terms.now c.args.left.now c.args.right.now c.args.bits.now c.in_err-push_units.field-0.0 c.args.clauses.now c.blast_each.new.clauses c.push_units.new.clauses
    c.deref.result.now c.in_ok-holds.ensures.clauses (c.deref.ensures.value ∙ c.in_ok-holds.ensures.lits) c.in_err-push_units.ensures.cut)

pub returns-in_err-others-clause-cut : goal.returns-in_err-others-clause-cut
returns-in_err-others-clause-cut c =
    let r = err_from_is_err_and c.from_residual-in_err-others.result c.from_residual-in_err-others.ensures.1 in
    rw (r.1, r.2)
    (others_off c.args.terms.now c.args.left.now c.args.right.now c.args.bits.now c.in_err-others.field-0.0 c.args.clauses.now c.blast_each.new.clauses c.push_units.new.clauses
    c.blast_each-2.new.clauses c.deref.result.now c.blast_each.new.bits c.in_ok-holds.ensures.clauses (c.deref.ensures.value ∙ c.in_ok-holds.ensures.lits)
    c.in_ok-push_units.ensures.clauses c.in_ok-holds.ensures.held c.in_err-others.ensures.cut)

pub returns-clause-cut : goal.returns-clause-cut
returns-clause-cut c =
    closing_off c.args.terms.now c.args.left.now c.args.right.now c.args.bits.now c.push_closing.result c.args.clauses.now c.blast_each.new.clauses c.push_units.new.clauses
    c.blast_each-2.new.clauses c.push_closing.new.clauses c.deref.result.now c.deref-2.result.now c.blast_each.new.bits c.blast_each-2.new.bits
    c.in_ok-holds.ensures.clauses (c.deref.ensures.value ∙ c.in_ok-holds.ensures.lits) c.in_ok-push_units.ensures.clauses c.in_ok-holds.ensures.held
    c.in_ok-others.ensures.clauses (c.deref-2.ensures.value ∙ c.in_ok-others.ensures.lits) c.in_ok-others.ensures.held c.push_closing.ensures.cut
