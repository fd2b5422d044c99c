use Rattle.std.proofs.Common.{◌≡◌, ◌++◌, ◌≤◌, drop, take, length}
use Rattle.cover_engine.specs.Caches.{below, spread}
use Rattle.cover_engine.proofs.covering.below_of.Given as goal

abbrev pub invariant-loop-left : goal.invariant-loop-left
invariant-loop-left l = (l.at ≤ length l.found.items) × (take l.at l.found.items ++ spread l.vertices l.left (drop l.at l.found.items) ≡ below l.vertices l.v)

abbrev pub decreases-loop-left : goal.decreases-loop-left
decreases-loop-left l = l.left
