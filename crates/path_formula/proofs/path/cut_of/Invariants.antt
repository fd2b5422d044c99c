use Rattle.std.proofs.Common.{◌≡◌, ◌++◌, drop}
use Rattle.path_formula.specs.Paths.{bundles_of}
use Rattle.path_formula.proofs.path.cut_of.Given as goal

abbrev pub invariant-loop-cell : goal.invariant-loop-cell
invariant-loop-cell l = bundles_of l.bits.cells l.cells ≡ l.bundles.items ++ bundles_of l.bits.cells (drop l.cell-index l.cells)
