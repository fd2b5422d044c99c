use Rattle.std.proofs.Common.{rules, ◌≡◌, ◌∙◌, ap, subst, ℕ, List}
use Rattle.prop.specs.declared.Lit.{Lit}
use Rattle.plain_solver.specs.Search.{IsEnding}
use Rattle.clause_learning.specs.Solve.{trues_of}
use Rattle.clause_learning.proofs.MeetLaws.{met_answer}
use Rattle.plain_solver.proofs.engine.answer_of.Goals as goal

pub returns-in-Ok : goal.returns-in-Ok
returns-in-Ok c = met_answer c.in-Met.trail.entries.items c.in-Ok.vars.items c.from_trues.result c.args.clauses.now (c.in-Ok.ensures ∙ ap trues_of c.as_slice.ensures.value) c.from_trues.ensures (subst (IsEnding c.args.clauses.now c.args.learn c.args.limit) c.in-Met.is c.requires)
