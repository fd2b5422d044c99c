use Rattle.std.proofs.Common.{refl}
use Rattle.cert_verdicts.specs.Judged.IsCertJudged.{accepted, refused}
use Rattle.cert_verdicts.proofs.judging.judge_map.Goals as goal

pub returns-in-Ok : goal.returns-in-Ok
returns-in-Ok g c = accepted (record {
  hash = c.requires.hash;
  under = c.requires.model;
  accepted = c.in-Ok.ensures.accepted;
  safe = λ draws v kind at after runs is. c.accepted_is_safe.ensures c.args.graph.now c.args.cert.now draws v kind at after c.entry-entry.ensures.flow c.in-Ok.ensures.accepted runs is;
}) refl

pub returns-in-Err : goal.returns-in-Err
returns-in-Err g c = refused c.in-Err.fail c.requires.hash c.requires.model c.in-Err.ensures.cause c.refused.ensures
