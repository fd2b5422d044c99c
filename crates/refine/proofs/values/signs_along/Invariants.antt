use Rattle.std.proofs.Common.{◌≡◌, ◌++◌, drop}
use Rattle.path_laws.specs.Values.{signs_along}
use Rattle.refine.proofs.values.signs_along.Given as goal

abbrev pub invariant-loop-edge : goal.invariant-loop-edge
invariant-loop-edge l = l.signs.items ++ signs_along l.graph (drop l.edge-index l.path) ≡ signs_along l.graph l.path
