use Rattle.std.proofs.Common.{subst, sym, ℕ}
use Rattle.clause_learning.specs.declared.QueryFail.{QueryFail}
use Rattle.cert_build.specs.declared.proving.Proved.{Proved}
use Rattle.cert_build.specs.Proofs.{IsProved, IsProveCause}
use Rattle.source_verdicts.specs.Verified.{IsLimit}
use Rattle.source_verdicts.proofs.Spending.{obligation_spent, obligation_long, obligation_heavy}
use Rattle.source_verdicts.proofs.certifying.proved.Goals as goal

pub returns-in-Ok-Logs : goal.returns-in-Ok-Logs
returns-in-Ok-Logs g c = c.stored.ensures

pub returns-in-Ok-Spent : goal.returns-in-Ok-Spent
returns-in-Ok-Spent g c =
    let spent = subst (λ (x : Proved). IsProved c.args.graph.now c.args.map.now c.args.budget.learn x) c.in-Ok-Spent.field-0-is c.in-Ok-Spent.ensures.proved in (
      λ p units extracted. obligation_spent p c.args.graph.now c.args.source.now c.args.model units c.args.budget.learn c.args.map.now c.in-Ok-Spent._number c.in-Ok-Spent._log c.requires.map
          spent.0 spent.1,
      tt,
    )

pub returns-in-Err-Over : goal.returns-in-Err-Over
returns-in-Err-Over g c = (
  λ p units extracted.
      let g = c.args.graph.now in
      let long = obligation_long p g c.args.source.now c.args.model units c.args.budget.learn c.args.map.now c.in-Err-Over.count c.requires.map
      (subst (λ (x : QueryFail). IsProveCause g c.args.map.now c.args.budget.learn x) c.in-Err-Over.field-0-is c.in-Err-Over.ensures.cause) in
      subst (λ (n : ℕ). IsLimit p g c.args.source.now c.args.model units c.args.budget.learn 6 n) (sym c.in-Err-Over.count-is) long,
  tt,
)

pub returns-in-Err-OverLog : goal.returns-in-Err-OverLog
returns-in-Err-OverLog g c = (
  λ p units extracted.
      obligation_heavy p c.args.graph.now c.args.source.now c.args.model units c.args.budget.learn c.args.map.now c.in-Err-OverLog._log c.requires.map
      (subst (λ (x : QueryFail). IsProveCause c.args.graph.now c.args.map.now c.args.budget.learn x) c.in-Err-OverLog.field-0-is c.in-Err-OverLog.ensures.cause),
  tt,
)

pub unreachable-requires : goal.unreachable-requires
unreachable-requires g c =
    let fails = subst (λ (x : Proved). IsProved c.args.graph.now c.args.map.now c.args.budget.learn x) c.in-Ok-Fails.field-0-is c.in-Ok-Fails.ensures.proved in
    c.requires.refuted c.in-Ok-Fails._number fails.0.there fails.1.0 fails.1.1
