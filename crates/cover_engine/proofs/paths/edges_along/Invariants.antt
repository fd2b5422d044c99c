use Rattle.std.proofs.Common.{◌≡◌, ◌++◌, drop}
use Rattle.cover_engine.specs.Units.{edges_to}
use Rattle.cover_engine.proofs.paths.edges_along.Given as goal

abbrev pub invariant-loop-number : goal.invariant-loop-number
invariant-loop-number l = l.edges.items ++ edges_to l.vertices (drop l.number-index l.path) ≡ edges_to l.vertices l.path
