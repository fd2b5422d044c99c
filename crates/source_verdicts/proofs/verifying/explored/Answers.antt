use Rattle.std.proofs.Common.{ℤ, List, arith, subst, sym}
use Rattle.cover_engine.specs.Units.{Legal}
use Rattle.cover_engine.specs.Steering.{Steered}
use Rattle.explore.specs.Ends.{IsExplored, unwinding_of}
use Rattle.c_typed.specs.Parts.{tree_of}
use Rattle.source_verdicts.proofs.Spending.{question_spent, question_long, question_heavy}
use Rattle.source_verdicts.specs.Verified.{EndsSo}
use Rattle.source_verdicts.proofs.Replays.{found_ends}
use Rattle.source_verdicts.proofs.verifying.explored.Goals as goal

pub replayed-requires-clause-ends : goal.replayed-requires-clause-ends
replayed-requires-clause-ends g c =
    let p = tree_of c.args.examined.now.typed in
    let turns = c.turns_for-turns.result in
    let feasible = subst (λ e. IsExplored c.args.graph.now c.args.budget.units c.args.budget.learn e) c.in-Ok-Feasible.field-0-is c.in-Ok-Feasible.ensures.explored in
    subst (λ (values : List ℤ). EndsSo p turns values) (sym c.as_slice.ensures)
    (found_ends p c.args.graph.now c.in-Ok-Feasible.unwinding c.in-Ok-Feasible.values turns c.errors_meet.ensures c.requires.back feasible (omega (arith, c.turns_for-turns.ensures, c.count.ensures)))

pub returns-in-Ok-Complete : goal.returns-in-Ok-Complete
returns-in-Ok-Complete g c =
    c.certified.ensures (tree_of c.args.examined.now.typed) c.args.budget.units
    (subst (λ e. IsExplored c.args.graph.now c.args.budget.units c.args.budget.learn e) c.in-Ok-Complete.field-0-is c.in-Ok-Complete.ensures.explored).1

pub returns-in-Ok-Feasible : goal.returns-in-Ok-Feasible
returns-in-Ok-Feasible g c = c.replayed.ensures c.args.graph.now c.args.model c.args.budget.units c.args.budget.learn

pub returns-in-Ok-Learned : goal.returns-in-Ok-Learned
returns-in-Ok-Learned g c = (
  question_spent (tree_of c.args.examined.now.typed) c.args.graph.now c.args.source.now c.args.model c.args.budget.units c.args.budget.learn c.in-Ok-Learned._unwinding c.in-Ok-Learned._log
      (subst (λ e. Legal c.args.graph.now (unwinding_of e)) c.in-Ok-Learned.field-0-is c.in-Ok-Learned.ensures.legal)
      (subst (λ e. Steered c.args.graph.now (unwinding_of e)) c.in-Ok-Learned.field-0-is c.in-Ok-Learned.ensures.steered)
      (subst (λ e. IsExplored c.args.graph.now c.args.budget.units c.args.budget.learn e) c.in-Ok-Learned.field-0-is c.in-Ok-Learned.ensures.explored),
  tt,
)

pub returns-in-Ok-Over : goal.returns-in-Ok-Over
returns-in-Ok-Over g c = (
  question_long (tree_of c.args.examined.now.typed) c.args.graph.now c.args.source.now c.args.model c.args.budget.units c.args.budget.learn c.in-Ok-Over._unwinding c.in-Ok-Over.count
      (subst (λ e. Legal c.args.graph.now (unwinding_of e)) c.in-Ok-Over.field-0-is c.in-Ok-Over.ensures.legal)
      (subst (λ e. Steered c.args.graph.now (unwinding_of e)) c.in-Ok-Over.field-0-is c.in-Ok-Over.ensures.steered)
      (subst (λ e. IsExplored c.args.graph.now c.args.budget.units c.args.budget.learn e) c.in-Ok-Over.field-0-is c.in-Ok-Over.ensures.explored),
  tt,
)

pub returns-in-Ok-OverLog : goal.returns-in-Ok-OverLog
returns-in-Ok-OverLog g c = (
  question_heavy (tree_of c.args.examined.now.typed) c.args.graph.now c.args.source.now c.args.model c.args.budget.units c.args.budget.learn c.in-Ok-OverLog._unwinding c.in-Ok-OverLog._log
      (subst (λ e. Legal c.args.graph.now (unwinding_of e)) c.in-Ok-OverLog.field-0-is c.in-Ok-OverLog.ensures.legal)
      (subst (λ e. Steered c.args.graph.now (unwinding_of e)) c.in-Ok-OverLog.field-0-is c.in-Ok-OverLog.ensures.steered)
      (subst (λ e. IsExplored c.args.graph.now c.args.budget.units c.args.budget.learn e) c.in-Ok-OverLog.field-0-is c.in-Ok-OverLog.ensures.explored),
  tt,
)
