use Rattle.std.proofs.Common.{rules, subst}
use Rattle.std.specs.Prelude.{OnOk}
use Rattle.std.proofs.lemmas.Result.{IfErr-weaker, on_ok_weaker}
use Rattle.cert_check.specs.Answers.{AreRefutations}
use Rattle.cert_check.specs.Causes.{IsCheckCause, IsLogsCause}
use Rattle.cert_check.proofs.Faults.{accepted_by, logs_cause}
use Rattle.cert_check.proofs.checking.check.Goals as goal

pub returns-clause-accepted : goal.returns-clause-accepted
returns-clause-accepted c =
    let g = c.args.graph.now in
    let cert = c.args.cert.now in
    let m = c.in_ok-map.map in
    on_ok_weaker c.check_logs.result (accepted_by g cert m (search rules) (search rules) (search rules))
    (subst (λ logs. OnOk c.check_logs.result (AreRefutations g m logs)) c.deref.ensures.value c.check_logs.ensures.refuted)

pub returns-clause-cause : goal.returns-clause-cause
returns-clause-cause c =
    let g = c.args.graph.now in
    let cert = c.args.cert.now in
    let m = c.in_ok-map.map in
    IfErr-weaker c.check_logs.result (IsLogsCause g m cert.logs.items) (IsCheckCause g cert) (logs_cause g cert m (search rules) (search rules) (search rules)) (search rules)
