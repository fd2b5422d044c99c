use Rattle.std.proofs.Common.{◌≤◌, length}
use Rattle.refine.specs.Witnesses.{AreKnown}
use Rattle.refine.proofs.witnesses.Witnesses.find.Given as goal

abbrev pub invariant-loop-number : goal.invariant-loop-number
invariant-loop-number l = (l.number ≤ length l.self-inside.kept.items) × AreKnown l.terms l.self-inside.kept.items

abbrev pub decreases-loop-number : goal.decreases-loop-number
decreases-loop-number l = l.number
