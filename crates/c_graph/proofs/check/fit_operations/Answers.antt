use Rattle.std.proofs.Common.{refl}
use Rattle.std.proofs.lemmas.List.Elements.{All-more}
use Rattle.c_graph.specs.Shape.{OperationFits}
use Rattle.c_graph.proofs.Checking.{All-seen}
use Rattle.c_graph.proofs.check.fit_operations.Goals as goal

pub loop-operation-preserved : goal.loop-operation-preserved
loop-operation-preserved c =
    All-more (OperationFits c.args.terms.now) c.args.operations.now c.loop-operation.operation-index _ c.loop-operation-test.true c.loop-operation.invariant (c.fits_operation.ensures.0 c.if-not-fits_operation.false)

pub returns : goal.returns
returns c = (λ _. All-seen (OperationFits c.args.terms.now) c.args.operations.now c.loop-operation.operation-index c.loop-operation-test.false c.loop-operation.invariant, λ _. refl)
