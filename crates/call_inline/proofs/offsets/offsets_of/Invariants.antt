use Rattle.std.proofs.Common.{◌≡◌, ◌++◌, drop}
use Rattle.call_inline.specs.Copying.{all_offsets, lists_of}
use Rattle.call_inline.specs.Sizes.{size_in}
use Rattle.call_inline.proofs.offsets.offsets_of.Given as goal

abbrev pub invariant-loop-graph : goal.invariant-loop-graph
invariant-loop-graph l =
    lists_of l.all.items ++ all_offsets (size_in l.sizes) (drop l.graph-index l.graphs) ≡ all_offsets (size_in l.sizes) l.graphs
