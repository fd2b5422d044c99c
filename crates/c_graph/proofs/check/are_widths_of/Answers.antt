use Rattle.c_graph.proofs.Checking.{widths-differ, widths-differ-count, widths-step}
use Rattle.c_graph.proofs.check.are_widths_of.Goals as goal

pub loop-number-preserved : goal.loop-number-preserved
loop-number-preserved c =
    widths-step c.args.cells.now c.args.widths.now c.loop-number.number _ c.loop-number-test.true c.if-cells-widths.false c.loop-number.invariant c.if-widths-number.false

pub returns-then-cells-widths : goal.returns-then-cells-widths
returns-then-cells-widths c = (λ h. absurd (cc), λ e. absurd (widths-differ-count c.args.cells.now c.args.widths.now c.if-cells-widths.true e))

pub returns-then-widths-number : goal.returns-then-widths-number
returns-then-widths-number c =
    (λ h. absurd (cc), λ e. absurd (widths-differ c.args.cells.now c.args.widths.now c.loop-number.number _ c.loop-number-test.true c.if-widths-number.true e))
