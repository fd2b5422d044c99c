use Rattle.std.proofs.Common.{◌≡◌, drop}
use Rattle.c_graph.specs.Stores.{kept_for}
use Rattle.c_graph.proofs.store.scanned.Given as goal

abbrev pub invariant-loop-entry : goal.invariant-loop-entry
invariant-loop-entry l = kept_for l.named l.cell ≡ kept_for (drop l.entry-index l.named) l.cell
