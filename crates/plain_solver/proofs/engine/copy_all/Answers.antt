use Rattle.std.proofs.Common.{rules, arith, ◌≡◌, ℕ, ◌+◌, ◌++◌, ◌∷◌, [], ◌<◌, ◌≤◌, length, List, ap, sym, ◌∙◌, Some, take}
use Rattle.std.proofs.lemmas.List.{take_all}
use Rattle.clause_learning.proofs.MeetLaws.{take_next}
use Rattle.plain_solver.proofs.engine.copy_all.Goals as goal

pub loop-number-preserved : goal.loop-number-preserved
loop-number-preserved c = c.in_ok-push.ensures.pushed ∙ ap (λ w. w ++ (c.clause.result.now ∷ [])) c.loop-number.invariant ∙ sym (take_next c.args.clauses.now c.loop-number.number c.clause.result.now c.clause.ensures)

pub returns : goal.returns
returns c = c.loop-number.invariant ∙ take_all c.loop-number.number c.args.clauses.now (omega (arith, c.len-number-end.ensures.value, c.loop-number-test.false))
