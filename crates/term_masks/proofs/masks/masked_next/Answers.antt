use Rattle.std.proofs.Common.{sym, subst}
use Rattle.bv_term.specs.WellFormed.{FitsTable}
use Rattle.term_masks.proofs.Masking.{masked_put, next_fits}
use Rattle.term_masks.proofs.masks.masked_next.Goals as goal

pub put-outcome-requires : goal.put-outcome-requires
put-outcome-requires c =
    subst (FitsTable c.args.into.now) (sym c.masked_term.ensures)
    (next_fits c.args.from.now c.args.into.now c.args.kept.now c.args.to.now c.width_of-width.result c.get-term.result c.count-count.ensures.table c.get-term.ensures
    c.requires.cells c.width_of-width.ensures.value c.width_of-width.ensures.width c.requires.masked)

pub returns-clause-masked : goal.returns-clause-masked
returns-clause-masked c =
    masked_put c.put-outcome.result c.args.from.now c.args.into.now _ c.args.kept.now c.args.to.now c.width_of-width.result c.get-term.result c.masked_term.result
    c.count-count.ensures.table c.get-term.ensures c.requires.cells c.width_of-width.ensures.value c.requires.masked c.masked_term.ensures
    c.count-new_count.ensures.table c.put-outcome.ensures.put c.put-outcome.ensures.unchanged c.put-outcome.ensures.named
