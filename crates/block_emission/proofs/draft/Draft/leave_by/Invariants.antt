use Rattle.std.proofs.Common.{◌≡◌, drop}
use Rattle.block_emission.specs.Putting.{sketch_of}
use Rattle.block_emission.specs.Putting as made
use Rattle.block_emission.proofs.draft.Draft.leave_by.Given as goal

abbrev pub invariant-loop-number : goal.invariant-loop-number
invariant-loop-number l = made.leave_by (sketch_of l.self) (drop l.number l.exits) ≡ made.leave_by (sketch_of l.fn.self) l.exits
