use Rattle.std.proofs.Common.{◌≡◌, drop}
use Rattle.cover_engine.specs.Unwindings.{has}
use Rattle.cover_engine.specs.Units.{numbers_of}
use Rattle.cover_engine.proofs.refinement.has_conjunct.Given as goal

abbrev pub invariant-loop-conjunct : goal.invariant-loop-conjunct
invariant-loop-conjunct l = has l.term.0 (numbers_of l.label) ≡ has l.term.0 (numbers_of (drop l.conjunct-index l.label))
