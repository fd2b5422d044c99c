use Rattle.std.proofs.Common.{rules}
use Rattle.c_graph.specs.Shape.{widths_of}
use Rattle.cert_check.proofs.Faults.{misfit_at}
use Rattle.cert_check.proofs.map.table_of.Goals as goal

pub returns-then-not-fits-clause-cause : goal.returns-then-not-fits-clause-cause
returns-then-not-fits-clause-cause c =
    misfit_at (widths_of c.args.graph.now.cells) c.args.terms.now c.loop-term.term-index c.count.result c.loop-term.table _ c.fits.result c.loop-term.invariant.cells c.loop-term.invariant.terms c.count.ensures.table c.count.ensures.value (search rules) c.fits.ensures.1 (search rules)
