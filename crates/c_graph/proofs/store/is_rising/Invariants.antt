use Rattle.std.proofs.Common.{◌≡◌, drop}
use Rattle.c_graph.specs.Stores.{rises_from}
use Rattle.c_graph.proofs.store.is_rising.Given as goal

abbrev pub invariant-loop-entry : goal.invariant-loop-entry
invariant-loop-entry l = rises_from 0 l.named ≡ rises_from l.low (drop l.entry-index l.named)
