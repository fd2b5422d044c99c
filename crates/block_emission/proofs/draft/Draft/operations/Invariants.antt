use Rattle.std.proofs.Common.{◌≡◌, drop}
use Rattle.block_emission.specs.Emitting.{scheme_of}
use Rattle.block_emission.specs.Putting.{sketch_of}
use Rattle.block_emission.specs.Emitting as made
use Rattle.block_emission.proofs.draft.Draft.operations.Given as goal

abbrev pub invariant-loop-number : goal.invariant-loop-number
invariant-loop-number l = made.operations (scheme_of l.plan) (sketch_of l.self) l.guard l.test l.number (drop l.number l.operations) ≡ made.operations (scheme_of l.plan) (sketch_of l.fn.self) l.guard l.test 0 l.operations
