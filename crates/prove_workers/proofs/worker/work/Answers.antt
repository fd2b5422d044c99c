use Rattle.std.proofs.Common.{rules, ◌∙◌, ◌≡◌, ap, subst}
use Rattle.clause_learning.specs.Solve.{IsAnswer}
use Rattle.obligations.specs.Stated.{obligation_says}
use Rattle.work_claims.specs.Hands.{with_given, with_answer}
use Rattle.work_claims.specs.Seats.{hand}
use Rattle.prove_workers.specs.Working.{Proves}
use Rattle.prove_workers.proofs.Placing.{proves_more}
use Rattle.prove_workers.proofs.worker.work.Goals as goal

pub loop-preserved : goal.loop-preserved
loop-preserved c =
    let g = c.args.task.graph.now in
    let m = c.args.task.map.now in
    let learn = c.args.task.learn in
    let n = c.in-Some.number in
    let is : hand c.lowest.new.me ≡ with_answer (with_given (hand c.loop.me) n) c.lowest.result = search rules in
    let going : (hand c.lowest.new.me).finishes ≡ 0 = ap (λ h. h.finishes) is ∙ c.loop.invariant.1 in
    let answer : IsAnswer (obligation_says g m n) learn c.in-Ok-Unsat.field-0 = c.in-Ok-Unsat.ensures.answer in
    let one : Proves g m learn (record { number = n; log = c.in-Ok-Unsat.log }) = record {
      there = search rules;
      proof = (c.in-Ok-Unsat.ensures.within, subst (IsAnswer (obligation_says g m n) learn) c.in-Ok-Unsat.field-0-is answer);
    } in
    (c.lowest.ensures.of, going, proves_more g m learn c.loop.refuted.items c.push.new.self.items _ c.loop.invariant.2 one (search rules))
