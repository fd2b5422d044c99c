use Rattle.std.proofs.Common.{◌≡◌, ◌-◌, ◌≤◌, ◌++◌, drop, take, length}
use Rattle.cover_engine.specs.Units.{pairs_but_under}
use Rattle.cover_engine.specs.Caches.{AreInside}
use Rattle.cover_engine.proofs.pairs.keep_others_under.Given as goal

abbrev pub invariant-loop-at : goal.invariant-loop-at
invariant-loop-at l =
    (l.kept ≤ l.at) × (l.at ≤ length l.pairs.items) × AreInside l.vertices l.pairs.items
    × (take l.kept l.pairs.items ++ pairs_but_under l.vertices l.v (drop l.at l.pairs.items) ≡ pairs_but_under l.vertices l.v l.initial.pairs.items)

abbrev pub decreases-loop-at : goal.decreases-loop-at
decreases-loop-at l = length l.pairs.items - l.at
