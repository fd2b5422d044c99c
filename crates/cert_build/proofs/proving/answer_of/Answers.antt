use Rattle.std.proofs.Common.{◌∙◌, List, Option, sym, subst}
use Rattle.std.specs.Prelude.{IfSome}
use Rattle.resolution_log.specs.declared.Chain.{Chain}
use Rattle.cert_build.specs.Answered.{AreLogs}
use Rattle.cert_build.specs.Proofs.{IsProof}
use Rattle.cert_build.proofs.Finding.{log_taken, log_there}
use Rattle.cert_build.proofs.proving.answer_of.Goals as goal

pub returns-in-Some-clause-answer : goal.returns-in-Some-clause-answer
returns-in-Some-clause-answer c =
    let proof : IsProof c.args.graph.now c.args.map.now c.args.learn c.args.number c.in-Some.log =
    subst (λ (o : Option (List Chain)). IfSome o (IsProof c.args.graph.now c.args.map.now c.args.learn c.args.number)) (sym c.take_log.ensures.log ∙ c.in-Some.is)
    (log_there c.args.graph.now c.args.map.now c.args.learn c.args.logs.now.items c.args.number c.requires.logs) in
    proof.1

pub returns-in-Some-clause-within : goal.returns-in-Some-clause-within
returns-in-Some-clause-within c =
    let proof : IsProof c.args.graph.now c.args.map.now c.args.learn c.args.number c.in-Some.log =
    subst (λ (o : Option (List Chain)). IfSome o (IsProof c.args.graph.now c.args.map.now c.args.learn c.args.number)) (sym c.take_log.ensures.log ∙ c.in-Some.is)
    (log_there c.args.graph.now c.args.map.now c.args.learn c.args.logs.now.items c.args.number c.requires.logs) in
    proof.0

pub returns-in-Some-clause-logs : goal.returns-in-Some-clause-logs
returns-in-Some-clause-logs c =
    subst (AreLogs c.args.graph.now c.args.map.now c.args.learn) (sym c.take_log.ensures.left)
    (log_taken c.args.graph.now c.args.map.now c.args.learn c.args.logs.now.items c.args.number c.requires.logs)

pub returns-in-None-clause-logs : goal.returns-in-None-clause-logs
returns-in-None-clause-logs c =
    subst (AreLogs c.args.graph.now c.args.map.now c.args.learn) (sym c.take_log.ensures.left)
    (log_taken c.args.graph.now c.args.map.now c.args.learn c.args.logs.now.items c.args.number c.requires.logs)
