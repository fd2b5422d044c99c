use Rattle.cert_verdicts.specs.Judged.IsJudged.{read}
use Rattle.cert_verdicts.proofs.Unread.{unread_judged}
use Rattle.cert_verdicts.proofs.judging.judge.Goals as goal

pub returns-in-Ok : goal.returns-in-Ok
returns-in-Ok g c = read c.in-Ok.cert c.in-Ok.ensures c.judge_cert.ensures

pub returns-in-Err : goal.returns-in-Err
returns-in-Err g c = unread_judged _ _ _ _ c.in-Err.fail c.unread.result c.unread.ensures c.in-Err.ensures
