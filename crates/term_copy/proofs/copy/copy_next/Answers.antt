use Rattle.std.proofs.Common.{sym, subst}
use Rattle.bv_term.specs.WellFormed.{FitsTable}
use Rattle.term_copy.proofs.Copying.{copied_next, next-fits}
use Rattle.term_copy.proofs.copy.copy_next.Goals as goal

pub put-outcome-requires : goal.put-outcome-requires
put-outcome-requires c =
    subst (FitsTable c.args.into.now) (sym c.renamed.ensures)
    (next-fits c.args.from.now c.args.into.now c.args.to.now c.get-term.result c.count-count.ensures.table c.get-term.ensures c.requires.cells c.requires.copies)

pub returns-clause-copies : goal.returns-clause-copies
returns-clause-copies c =
    copied_next c.put-outcome.result c.args.from.now c.args.into.now _ c.args.to.now c.get-term.result c.renamed.result c.count-count.ensures.table c.get-term.ensures
    c.requires.cells c.requires.copies c.renamed.ensures c.count-new_count.ensures.table c.put-outcome.ensures.put c.put-outcome.ensures.unchanged c.put-outcome.ensures.named
