use Rattle.std.proofs.Common.{◌≡◌, ◌++◌, drop}
use Rattle.cover_engine.specs.Unwindings.{vertices_named}
use Rattle.cover_engine.proofs.paths.vertices_of.Given as goal

abbrev pub invariant-loop-number : goal.invariant-loop-number
invariant-loop-number l = l.vertices.items ++ vertices_named (drop l.number-index l.numbers) ≡ vertices_named l.numbers
