use Rattle.std.proofs.Common.{length, sym}
use Rattle.bit_blast.proofs.Over.{long-at}
use Rattle.bit_blast.proofs.store.store_known.Goals as goal

pub set-requires-clause-many : goal.set-requires-clause-many
set-requires-clause-many c =
    sym (long-at (length c.args.value.now) c.args.cells.now c.args.first c.args.count c.args.k c.requires.widths c.if-k-count.true c.requires.there)
