use Rattle.std.proofs.Common.{◌≡◌, ◌++◌, drop}
use Rattle.call_inline.specs.Copying.{offsets_among}
use Rattle.call_inline.specs.Sizes.{size_in}
use Rattle.call_inline.proofs.offsets.offsets_in.Given as goal

abbrev pub invariant-loop-node : goal.invariant-loop-node
invariant-loop-node l =
    l.offsets.items ++ offsets_among (size_in l.sizes) l.offset (drop l.node-index l.nodes) ≡ offsets_among (size_in l.sizes) 0 l.nodes
