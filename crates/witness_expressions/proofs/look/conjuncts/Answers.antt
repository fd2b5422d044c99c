use Rattle.witness_expressions.proofs.Shapes.{splits}
use Rattle.witness_expressions.proofs.look.conjuncts.Goals as goal

pub returns : goal.returns
returns c = λ names. rw (c.both_of.ensures, c.shape_of_term.ensures, c.look-found.ensures.value) (splits names c.args.terms.now c.args.term c.look-found.ensures.table)
