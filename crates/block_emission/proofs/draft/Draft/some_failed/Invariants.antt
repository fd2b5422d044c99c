use Rattle.std.proofs.Common.{◌≡◌, ◌-◌, drop, length}
use Rattle.block_emission.specs.Putting.{sketch_of}
use Rattle.block_emission.specs.Putting as made
use Rattle.block_emission.proofs.draft.Draft.some_failed.Given as goal

abbrev pub invariant-loop-behind : goal.invariant-loop-behind
invariant-loop-behind l = (sketch_of l.self, l.any) ≡ made.some_failed (sketch_of l.fn.self) (drop (length l.checks - l.behind) l.checks)
