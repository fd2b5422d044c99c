use Rattle.std.proofs.Common.{◌≡◌, drop}
use Rattle.block_emission.specs.Emitting.{scheme_of}
use Rattle.block_emission.specs.Putting.{sketch_of}
use Rattle.block_emission.specs.Emitting as made
use Rattle.block_emission.proofs.draft.Draft.places.Given as goal

abbrev pub invariant-loop-number : goal.invariant-loop-number
invariant-loop-number l = made.places (scheme_of l.plan) (sketch_of l.self) l.start (drop l.number l.places) ≡ made.places (scheme_of l.plan) (sketch_of l.fn.self) l.start l.places
