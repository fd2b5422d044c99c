use Rattle.std.proofs.Common.{◌≡◌, ◌<◌, length}
use Rattle.cover_engine.specs.Unwindings.{has, path_up}
use Rattle.cover_engine.proofs.look_up.above_at.Given as goal

abbrev pub invariant-loop-left : goal.invariant-loop-left
invariant-loop-left l = (l.at < length l.vertices) × (has l.u (path_up l.vertices l.left l.at) ≡ has l.u (path_up l.vertices (length l.vertices) l.v))

abbrev pub decreases-loop-left : goal.decreases-loop-left
decreases-loop-left l = l.left
