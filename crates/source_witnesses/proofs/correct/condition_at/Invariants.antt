use Rattle.std.proofs.Common.{◌≡◌, drop}
use Rattle.source_witnesses.specs.Witnesses.{condition_of}
use Rattle.source_witnesses.proofs.correct.condition_at.Given as goal

-- the loops so far are others
abbrev pub invariant-loop-place : goal.invariant-loop-place
invariant-loop-place l = condition_of (drop l.place-index l.places) l.keyword ≡ condition_of l.places l.keyword
