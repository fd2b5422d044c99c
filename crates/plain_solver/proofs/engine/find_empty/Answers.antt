use Rattle.std.proofs.Common.{rules, arith, ◌≡◌, ℕ, ◌+◌, ◌<◌, ◌≤◌, length, List, [], ap, sym, ◌∙◌, Some, subst, take, true, false}
use Rattle.std.proofs.lemmas.Bool.{both_ways, eqb-true, eq-eqb}
use Rattle.std.proofs.lemmas.List.{take_all}
use Rattle.prop.specs.declared.Lit.{Lit}
use Rattle.prop.specs.Steps.{In}
use Rattle.clause_learning.proofs.MeetLaws.{none_more, nil_of}
use Rattle.plain_solver.proofs.engine.find_empty.Goals as goal

pub returns-then-is_empty : goal.returns-then-is_empty
returns-then-is_empty c = c.clause.ensures ∙ ap Some (nil_of c.clause.result.now (eqb-true _ _ (sym c.is_empty.ensures ∙ c.if-is_empty.true)))

pub loop-number-preserved : goal.loop-number-preserved
loop-number-preserved c = none_more c.args.clauses.now c.loop-number.number c.clause.result.now c.clause.ensures (λ e. both_ways _ c.if-is_empty.false (c.is_empty.ensures ∙ eq-eqb _ _ (ap length e))) c.loop-number.invariant

pub returns : goal.returns
returns c d hd e = c.loop-number.invariant d (subst (λ w. In w d) (sym (take_all c.loop-number.number c.args.clauses.now (omega (arith, c.len-number-end.ensures.value, c.loop-number-test.false)))) hd) e
