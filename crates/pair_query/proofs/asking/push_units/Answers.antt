use Rattle.std.proofs.Common.{refl, false}
use Rattle.std.proofs.lemmas.Result.{err_from_is_err_and}
use Rattle.pair_query.proofs.Blasting.{unit_cut}
use Rattle.pair_query.proofs.asking.push_units.Goals as goal

pub returns-in_err-push-clause-cut : goal.returns-in_err-push-clause-cut
returns-in_err-push-clause-cut c =
    let r = err_from_is_err_and c.from_residual.result c.from_residual.ensures.1 in
    rw (r.1, r.2)
    (unit_cut c.args.lits.now c.loop-lit.lit-index c.args.clauses.now c.loop-lit.clauses c.push.new.self _ (record { var = 0; positive = false }) c.in_err-push.field-0.0
    c.loop-lit-test.true refl c.loop-lit.invariant c.in_err-push.ensures.0 c.in_err-push.ensures.1)
