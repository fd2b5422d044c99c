use Rattle.path_formula.proofs.operations.draw.Goals as goal

pub returns-clause-over : goal.returns-clause-over
returns-clause-over c = c.rebind.ensures.over c.args.terms.now (c.in_ok-lits.ensures.over c.args.terms.now c.requires.over)
