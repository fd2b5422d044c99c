use Rattle.std.proofs.Common.{◌∙◌, refl}
use Rattle.request_answers.specs.Answers.IsCheckAnswer.{long_cert}
use Rattle.request_answers.proofs.Checks.{check_judged}
use Rattle.request_answers.proofs.Judgements.{judgement_no_fault}
use Rattle.request_answers.proofs.deciding.check_cert.Goals as goal

pub returns-in-Ok-Bytes-clause-answer : goal.returns-in-Ok-Bytes-clause-answer
returns-in-Ok-Bytes-clause-answer g c t =
    let read = rw c.in-Ok-Bytes.field-0-is at (c.in-Ok-Bytes.ensures.bytes t) in
    check_judged _ c.args.parts.now.examined.typed c.args.parts.now.joined.graph c.args.checking.model c.args.source.now c.deref.result.now (g.F.Folder.file c.args.folder.now c.args.checking.cert.now) c.judge.result c.requires.graph read.1
    (c.deref.ensures.value ∙ read.0) c.judge.ensures

pub returns-in-Ok-Bytes-clause-read_fault : goal.returns-in-Ok-Bytes-clause-read_fault
returns-in-Ok-Bytes-clause-read_fault g c = λ e. absurd (judgement_no_fault _ _ _ _ c.judge.result c.judge.ensures e)

pub returns-in-Ok-Longer-clause-answer : goal.returns-in-Ok-Longer-clause-answer
returns-in-Ok-Longer-clause-answer g c t =
    long_cert c.args.parts.now.examined.typed c.args.parts.now.joined.graph c.requires.graph (rw c.in-Ok-Longer.field-0-is at (c.in-Ok-Longer.ensures.bytes t)) refl
