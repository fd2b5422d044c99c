use Rattle.std.proofs.Common.{◌≡◌, ◌++◌, drop}
use Rattle.cover_engine.specs.Caches.{below_lefts}
use Rattle.cover_engine.proofs.covering.below_lefts_of.Given as goal

abbrev pub invariant-loop-pair : goal.invariant-loop-pair
invariant-loop-pair l = l.found.items ++ below_lefts l.vertices (drop l.pair-index l.pairs) ≡ below_lefts l.vertices l.pairs
