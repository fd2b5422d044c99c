use Rattle.std.proofs.Common.{◌≡◌, ◌≤◌, length}
use Rattle.cover_engine.specs.Unwindings.{is_complete, none_open}
use Rattle.cover_engine.proofs.unwinding.Unwinding.complete.Given as goal

abbrev pub invariant-loop-left : goal.invariant-loop-left
invariant-loop-left l = (l.left ≤ length l.self.vertices) × (none_open l.graph l.self l.left ≡ is_complete l.graph l.self)

abbrev pub decreases-loop-left : goal.decreases-loop-left
decreases-loop-left l = l.left
