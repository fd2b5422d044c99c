use Rattle.std.proofs.Common.{◌≡◌, drop}
use Rattle.block_emission.specs.Emitting.{scheme_of}
use Rattle.block_emission.specs.Putting.{sketch_of}
use Rattle.block_emission.specs.Blocking as made
use Rattle.block_emission.proofs.blocking.emit_all.Given as goal

abbrev pub invariant-loop-number : goal.invariant-loop-number
invariant-loop-number l = made.emit_all (scheme_of l.plan) (sketch_of l.draft) l.number (drop l.number (made.places_of l.members)) ≡ made.emit_all (scheme_of l.plan) (sketch_of l.fn.draft) 0 (made.places_of l.members)
