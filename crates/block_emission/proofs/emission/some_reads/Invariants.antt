use Rattle.std.proofs.Common.{◌≡◌, drop}
use Rattle.block_emission.specs.Emitting as made
use Rattle.block_emission.proofs.emission.some_reads.Given as goal

abbrev pub invariant-loop-number : goal.invariant-loop-number
invariant-loop-number l = made.some_reads l.live l.unit (drop l.number l.waiting) ≡ made.some_reads l.live l.unit l.waiting
