use Rattle.std.proofs.Common.{◌≡◌, ◌++◌, length}
use Rattle.cover_engine.specs.Unwindings.{path_up}
use Rattle.cover_engine.proofs.refinement.path_to.Given as goal

abbrev pub invariant-loop-left : goal.invariant-loop-left
invariant-loop-left l = l.path.items ++ path_up l.vertices l.left l.at ≡ path_up l.vertices (length l.vertices) l.fn.v.0

abbrev pub decreases-loop-left : goal.decreases-loop-left
decreases-loop-left l = l.left
