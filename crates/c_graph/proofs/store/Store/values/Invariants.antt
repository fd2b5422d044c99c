use Rattle.std.proofs.Common.{◌≡◌, ◌++◌, ◌-◌}
use Rattle.c_graph.specs.Stores.{values_from}
use Rattle.c_graph.proofs.store.Store.values.Given as goal

abbrev pub invariant-loop-cell : goal.invariant-loop-cell
invariant-loop-cell l = l.values.items ++ values_from l.self-inside.named.items l.cell (l.self-inside.cells - l.cell) ≡ values_from l.self-inside.named.items 0 l.self-inside.cells
