use Rattle.refine.proofs.Legality.{legal_grown, links_refine}
use Rattle.refine.proofs.leaf.strengthen.Goals as goal

pub returns-clause-legal : goal.returns-clause-legal
returns-clause-legal c = λ legal leaf.
    c.refined.ensures.legal (legal_grown c.args.graph.now c.args.unwinding.now c.formulas_of.new.unwinding c.formulas_of.ensures.extends c.formulas_of.ensures.others legal)
    (links_refine c.args.graph.now c.args.unwinding.now c.formulas_of.new.unwinding c.args.v c.in_ok-formulas.formulas c.formulas_of.ensures.extends
    c.formulas_of.ensures.others c.vertices-vertices.ensures.labelled c.requires.vertex leaf (c.in_ok-formulas.ensures.links c.args.v legal c.requires.vertex c.requires.path))

pub returns-in_err-formulas-clause-legal : goal.returns-in_err-formulas-clause-legal
returns-in_err-formulas-clause-legal c = λ legal leaf.
    legal_grown c.args.graph.now c.args.unwinding.now c.formulas_of.new.unwinding c.formulas_of.ensures.extends c.formulas_of.ensures.others legal
