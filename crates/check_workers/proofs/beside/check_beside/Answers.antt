use Rattle.std.proofs.Common.{rules, subst}
use Rattle.std.specs.Prelude.{OnOk}
use Rattle.std.proofs.lemmas.Result.{IfErr-weaker, on_ok_weaker}
use Rattle.cert_check.specs.Answers.{AreRefutations}
use Rattle.cert_check.specs.Causes.{IsCheckCause, IsLogsCause}
use Rattle.cert_check.proofs.Faults.{accepted_by, logs_cause}
use Rattle.check_workers.proofs.beside.check_beside.Goals as goal

pub returns-clause-cause : goal.returns-clause-cause
returns-clause-cause g c =
    let graph = c.args.graph.now in
    let cert = c.args.cert.now in
    let m = c.in_ok-map.map in
    IfErr-weaker c.check_all.result (IsLogsCause graph m cert.logs.items) (IsCheckCause graph cert) (logs_cause graph cert m (search rules) (search rules) (search rules)) (search rules)

pub returns-clause-accepted : goal.returns-clause-accepted
returns-clause-accepted g c =
    let graph = c.args.graph.now in
    let cert = c.args.cert.now in
    let m = c.in_ok-map.map in
    on_ok_weaker c.check_all.result (accepted_by graph cert m (search rules) (search rules) (search rules))
    (subst (λ logs. OnOk c.check_all.result (AreRefutations graph m logs)) c.deref.ensures.value c.check_all.ensures.refuted)
