use Rattle.std.proofs.Common.{◌≡◌, drop}
use Rattle.block_emission.specs.Putting.{sketch_of}
use Rattle.block_emission.specs.Blocking as made
use Rattle.block_emission.proofs.blocking.keep_all.Given as goal

abbrev pub invariant-loop-number : goal.invariant-loop-number
invariant-loop-number l = made.keep_all l.graph l.blocks (sketch_of l.draft) (drop l.number l.outs) ≡ made.keep_all l.graph l.blocks (sketch_of l.fn.draft) l.outs
