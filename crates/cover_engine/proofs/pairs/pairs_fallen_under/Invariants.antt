use Rattle.std.proofs.Common.{◌≡◌, ◌++◌, drop}
use Rattle.cover_engine.specs.Caches.{pairs_under}
use Rattle.cover_engine.proofs.pairs.pairs_fallen_under.Given as goal

abbrev pub invariant-loop-pair : goal.invariant-loop-pair
invariant-loop-pair l = l.fallen.items ++ pairs_under l.vertices l.v (drop l.pair-index l.pairs) ≡ pairs_under l.vertices l.v l.pairs
