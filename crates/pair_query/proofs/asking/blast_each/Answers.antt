use Rattle.std.proofs.Common.{refl}
use Rattle.std.proofs.lemmas.Result.{err_from_is_err_and}
use Rattle.pair_query.proofs.Blasting.{rest_cut, rest_memory}
use Rattle.pair_query.proofs.asking.blast_each.Goals as goal

pub returns-in_err-lit-clause-cut : goal.returns-in_err-lit-clause-cut
returns-in_err-lit-clause-cut c =
    let r = err_from_is_err_and c.from_residual.result c.from_residual.ensures.1 in
    rw (r.1, r.2)
    (rest_cut c.args.terms.now c.args.bits.now c.loop-conjunct.bits c.args.label.now c.loop-conjunct.conjunct-index c.args.clauses.now c.loop-conjunct.clauses
    c.blast_term.new.clauses c.loop-conjunct.lits.items _ (record { 0 = 0 }) c.in_err-lit.field-0.0 c.loop-conjunct-test.true refl c.in_err-lit.ensures.cut
    c.loop-conjunct.invariant.1)

pub returns-then-is_err-clause-cut : goal.returns-then-is_err-clause-cut
returns-then-is_err-clause-cut c =
    rest_memory c.args.terms.now c.args.bits.now c.loop-conjunct.bits c.args.label.now c.loop-conjunct.conjunct-index c.args.clauses.now c.loop-conjunct.clauses
    c.blast_term.new.clauses c.loop-conjunct.lits.items _ (record { 0 = 0 }) c.loop-conjunct-test.true refl c.in_ok-lit.ensures.clauses c.loop-conjunct.invariant.1
