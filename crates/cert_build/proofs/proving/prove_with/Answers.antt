use Rattle.std.proofs.Common.{subst, rules}
use Rattle.std.proofs.lemmas.Result.{err_from_is_err_and}
use Rattle.clause_learning.specs.Solve.{IsAnswer}
use Rattle.obligations.specs.Stated.{obligation_says}
use Rattle.cert_build.proofs.Gathering.{cause_of, proofs_more}
use Rattle.cert_build.proofs.proving.prove_with.Goals as goal

pub returns-in_err-log-clause-cause : goal.returns-in_err-log-clause-cause
returns-in_err-log-clause-cause c =
    let p = err_from_is_err_and c.from_residual.result c.from_residual.ensures.1 in
    rw (p.1, p.2)
    (cause_of c.args.graph.now c.args.map.now c.args.learn c.loop-number.number c.loop-number.logs.items _ (search rules) c.loop-number.invariant.0 c.in_err-log.ensures.cause)

pub loop-number-preserved : goal.loop-number-preserved
loop-number-preserved c = (
  proofs_more c.args.graph.now c.args.map.now c.args.learn c.loop-number.number c.loop-number.logs.items c.push.new.self.items c.in-Unsat.log c.loop-number.invariant.0
      (c.in_ok-log.ensures.within, subst (IsAnswer (obligation_says c.args.graph.now c.args.map.now c.loop-number.number) c.args.learn) c.in-Unsat.is c.in_ok-log.ensures.answer)
      (search rules),
  c.in_ok-log.ensures.places,
  c.in_ok-log.ensures.logs,
  c.in_ok-log.ensures.stopped,
)
