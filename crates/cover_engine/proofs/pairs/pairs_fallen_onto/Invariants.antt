use Rattle.std.proofs.Common.{◌≡◌, ◌++◌, drop}
use Rattle.cover_engine.specs.Caches.{pairs_onto}
use Rattle.cover_engine.proofs.pairs.pairs_fallen_onto.Given as goal

abbrev pub invariant-loop-pair : goal.invariant-loop-pair
invariant-loop-pair l = l.fallen.items ++ pairs_onto l.numbers (drop l.pair-index l.pairs) ≡ pairs_onto l.numbers l.pairs
