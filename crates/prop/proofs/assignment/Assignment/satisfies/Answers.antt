use Rattle.std.proofs.Common.{◌∙◌, sym}
use Rattle.prop.specs.Trues.{listed}
use Rattle.prop.proofs.All.{all_next, all_stop}
use Rattle.prop.proofs.assignment.Assignment.satisfies.Goals as goal

pub returns-then-not-clause : goal.returns-then-not-clause
returns-then-not-clause c = sym (c.loop-number.invariant ∙ all_stop (listed c.args.self.now) c.args.clauses.now c.loop-number.number c.clause.result.now c.clause.ensures (sym c.clause-in-loop-number.ensures ∙ c.if-not-clause.true))

pub loop-number-preserved : goal.loop-number-preserved
loop-number-preserved c = c.loop-number.invariant ∙ all_next (listed c.args.self.now) c.args.clauses.now c.loop-number.number c.clause.result.now c.clause.ensures (sym c.clause-in-loop-number.ensures ∙ c.if-not-clause.false)
