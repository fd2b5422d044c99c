use Rattle.std.proofs.Common.{sym, ap, ◌∙◌}
use Rattle.witness_expressions.specs.Shapes.{shape_of}
use Rattle.witness_expressions.proofs.Shapes.{says}
use Rattle.witness_expressions.proofs.look.shape_at.Goals as goal

pub returns : goal.returns
returns c = λ names. rw (c.shape_of_term.ensures, c.look-found.ensures.value) (says names c.args.terms.now c.args.term c.look-found.ensures.table)
