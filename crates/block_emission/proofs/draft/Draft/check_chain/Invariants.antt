use Rattle.std.proofs.Common.{◌≡◌, ◌-◌, drop}
use Rattle.block_emission.specs.Putting.{sketch_of}
use Rattle.block_emission.specs.Putting as made
use Rattle.block_emission.proofs.draft.Draft.check_chain.Given as goal

abbrev pub invariant-loop-number : goal.invariant-loop-number
invariant-loop-number l = made.check_chain (sketch_of l.self) l.from (drop (l.number - 1) l.checks) ≡ made.check_chain (sketch_of l.fn.self) l.fn.chain l.checks
