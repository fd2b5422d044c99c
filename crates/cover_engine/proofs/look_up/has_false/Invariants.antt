use Rattle.std.proofs.Common.{◌≡◌, drop}
use Rattle.cover_engine.specs.Unwindings.{some_false}
use Rattle.cover_engine.proofs.look_up.has_false.Given as goal

abbrev pub invariant-loop-conjunct : goal.invariant-loop-conjunct
invariant-loop-conjunct l = some_false l.terms l.label ≡ some_false l.terms (drop l.conjunct-index l.label)
