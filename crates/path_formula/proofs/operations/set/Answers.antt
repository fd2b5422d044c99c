use Rattle.path_formula.proofs.operations.set.Goals as goal

pub returns-clause-over : goal.returns-clause-over
returns-clause-over c = c.rebind.ensures.over c.args.terms.now c.in-Ok.ensures.over
