use Rattle.std.proofs.Common.{◌≡◌, drop}
use Rattle.cover_engine.specs.Unwindings.{has}
use Rattle.cover_engine.proofs.refinement.has_number.Given as goal

abbrev pub invariant-loop-one : goal.invariant-loop-one
invariant-loop-one l = has l.number l.numbers ≡ has l.number (drop l.one-index l.numbers)
