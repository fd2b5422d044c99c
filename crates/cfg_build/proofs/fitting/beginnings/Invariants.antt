use Rattle.std.specs.Prelude.{◌≡◌, length}
use Rattle.cfg_build.proofs.Entering.{BeginsBelow}
use Rattle.cfg_build.proofs.fitting.beginnings.Given as goal

-- the links so far
abbrev pub invariant-loop-number : goal.invariant-loop-number
invariant-loop-number l = (length l.numbers.items ≡ l.places) × BeginsBelow l.links l.places l.numbers.items l.number
