use Rattle.std.proofs.Common.{rules, ◌≡◌, ◌∙◌, sym, ap, arith, ℕ, ◌++◌, length, drop, length-append}
use Rattle.resolution_log.specs.Codes.{all_vars}
use Rattle.resolution_log.proofs.Places.{all_vars_next, length-all_vars}
use Rattle.resolution_log.proofs.numbering.collect_vars.Goals as goal

pub loop-number-preserved : goal.loop-number-preserved
loop-number-preserved c = all_vars_next c.loop-number.vars.items c.add_vars.new.vars.items c.args.clauses.now c.loop-number.number c.clause.result.now (all_vars c.args.clauses.now) c.clause.ensures (search rules) c.loop-number.invariant

pub returns-clause-few : goal.returns-clause-few
returns-clause-few c = omega (arith, ap length c.loop-number.invariant, length-append c.loop-number.vars.items (all_vars (drop c.loop-number.number c.args.clauses.now)), length-all_vars c.args.clauses.now, c.literals.ensures.within)
