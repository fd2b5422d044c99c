use Rattle.std.proofs.Common.{◌≡◌, ◌++◌, drop}
use Rattle.cover_engine.specs.Caches.{vertex_numbers}
use Rattle.cover_engine.proofs.covering.push_numbers.Given as goal

abbrev pub invariant-loop-vertex : goal.invariant-loop-vertex
invariant-loop-vertex l = l.numbers.items ++ vertex_numbers (drop l.vertex-index l.vertices) ≡ l.initial.numbers.items ++ vertex_numbers l.vertices
