use Rattle.std.proofs.Common.{◌≡◌, length, ap, ◌∙◌, arith, slice_index}
use Rattle.bv_term.specs.WellFormed.{widths}
use Rattle.path_formula.proofs.Parts.{array_long, narrow}
use Rattle.path_formula.proofs.Operating.{stored_first, stored_second, stored_third}
use Rattle.path_formula.proofs.operations.set_at.Goals as goal

pub returns-in-Err-clause-cut : goal.returns-in-Err-clause-cut
returns-in-Err-clause-cut c =
    stored_first c.args.terms.now c.args.first c.args.count c.args.index.0 c.args.term.0 c.args.bits.now c.args.clauses.now c.blast_all.new.clauses c.in-Err.end c.in-Err.ensures.emission

pub returns-in-Err-blast_all-clause-cut : goal.returns-in-Err-blast_all-clause-cut
returns-in-Err-blast_all-clause-cut c =
    stored_second c.args.terms.now c.args.first c.args.count c.args.index.0 c.args.term.0 c.args.bits.now c.blast_all.new.bits c.args.clauses.now c.blast_all.new.clauses c.blast_all-2.new.clauses
    c.in-Err-blast_all.end c.in-Ok.ensures.emission.0.1 c.in-Ok.ensures.emission.2 c.in-Err-blast_all.ensures.emission

pub store_at-requires-clause-index : goal.store_at-requires-clause-index
store_at-requires-clause-index c =
    let n = narrow c.args.terms.now c.args.index.0 c.count-all.ensures.table c.requires.indexed.1 in
    let w : length c.in-Ok.places.items ≡ slice_index (widths c.args.terms.now) c.args.index.0 = c.in-Ok.ensures.width in
    omega (arith, n, w, ap length c.deref.ensures.value)

pub store_at-requires-clause-widths : goal.store_at-requires-clause-widths
store_at-requires-clause-widths c =
    array_long c.args.terms.now c.blast_all-2.new.bits c.args.first c.args.count (length c.deref-2.result.now) c.in-Ok-blast_all.ensures.over c.requires.indexed.0
    (ap length c.deref-2.ensures.value ∙ (c.in-Ok-blast_all.ensures.width ∙ c.requires.term.1))

pub returns-in-Err-store_at-clause-cut : goal.returns-in-Err-store_at-clause-cut
returns-in-Err-store_at-clause-cut c =
    stored_third c.args.terms.now c.args.first c.args.count c.args.index.0 c.args.term.0 c.args.bits.now c.blast_all.new.bits c.blast_all-2.new.bits
    c.args.clauses.now c.blast_all.new.clauses c.blast_all-2.new.clauses c.store_at.new.clauses c.deref.result.now c.deref-2.result.now c.in-Err-store_at.end
    c.in-Ok.ensures.emission.0.1 (c.deref.ensures.value ∙ c.in-Ok.ensures.emission.1) c.in-Ok.ensures.emission.2
    c.in-Ok-blast_all.ensures.emission.0.1 (c.deref-2.ensures.value ∙ c.in-Ok-blast_all.ensures.emission.1) c.in-Ok-blast_all.ensures.emission.2
    c.in-Err-store_at.ensures.emission

pub returns-clause-over : goal.returns-clause-over
returns-clause-over c = c.in-Ok-store_at.ensures.over c.args.terms.now c.in-Ok-blast_all.ensures.over
