use Rattle.std.proofs.Common.{◌≡◌, ◌<◌, ◌∙◌, ap, sym, arith, length, Some}
use Rattle.std.specs.Prelude.{slice_get}
use Rattle.std.proofs.lemmas.Option.{slice_get-get_or}
use Rattle.std.proofs.lemmas.Result.{err_from_is_err_and}
use Rattle.cert_check.proofs.Faults.{all_passed, first_fails, passed_more}
use Rattle.cert_check.proofs.checking.check_logs.Goals as goal

pub returns-in_err-check_one-clause-cause : goal.returns-in_err-check_one-clause-cause
returns-in_err-check_one-clause-cause c =
    let logs = c.args.logs.now in
    let n = c.loop-number.number in
    let log = c.index-logs-number.result in
    let there : n < length logs = omega (arith, c.loop-number-test.true) in
    let at : slice_get logs n ≡ Some log = slice_get-get_or logs n log there ∙ ap Some (sym c.index-logs-number.is) in
    let p = err_from_is_err_and c.from_residual.result c.from_residual.ensures.1 in
    rw (p.1, p.2)
    (first_fails c.args.graph.now c.args.map.now logs n log _ c.loop-number.invariant at c.in_err-check_one.ensures.cause)

pub loop-number-preserved : goal.loop-number-preserved
loop-number-preserved c =
    let logs = c.args.logs.now in
    let n = c.loop-number.number in
    let log = c.index-logs-number.result in
    let there : n < length logs = omega (arith, c.loop-number-test.true) in
    let at : slice_get logs n ≡ Some log = slice_get-get_or logs n log there ∙ ap Some (sym c.index-logs-number.is) in
    passed_more c.args.graph.now c.args.map.now logs n log c.loop-number.invariant at c.in_ok-check_one.ensures.passes

pub returns-clause-refuted : goal.returns-clause-refuted
returns-clause-refuted c =
    all_passed c.args.graph.now c.args.map.now c.args.logs.now c.loop-number.number (omega (arith, c.loop-number-test.false)) c.loop-number.invariant
