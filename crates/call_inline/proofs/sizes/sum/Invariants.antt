use Rattle.std.proofs.Common.{◌≡◌, ◌≤◌, ◌+◌, drop, min}
use Rattle.call_inline.specs.Sizes.{nodes_among, size_in}
use Rattle.call_inline.proofs.sizes.sum.Given as goal

-- what was added, with the nodes that are left
abbrev pub invariant-loop-node : goal.invariant-loop-node
invariant-loop-node l = record {
  summed :
      min (l.nodes + nodes_among (size_in l.sizes) (drop l.node-index l.own)) 18446744073709551615
      ≡ min (nodes_among (size_in l.sizes) l.own) 18446744073709551615;
  fits : l.nodes ≤ 18446744073709551615;
}
