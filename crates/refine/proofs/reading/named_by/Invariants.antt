use Rattle.prop.specs.Trues.{listed}
use Rattle.pair_query.specs.Laws.{store_read}
use Rattle.refine.proofs.Stores.{AreNamed}
use Rattle.refine.proofs.reading.named_by.Given as goal

abbrev pub invariant-loop-cell : goal.invariant-loop-cell
invariant-loop-cell l = AreNamed l.named.items (store_read l.terms (listed l.found)) l.cell
