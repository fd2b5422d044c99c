use Rattle.std.proofs.Common.{◌≡◌, ◌+◌, ◌≤◌, min, drop}
use Rattle.cfg_build.specs.Sizes.{graph_nodes, nodes_of}
use Rattle.cfg_build.proofs.sizes.node_count.Given as goal

-- what was counted, with the instructions that are left
abbrev pub invariant-loop-instruction : goal.invariant-loop-instruction
invariant-loop-instruction l =
    (min (l.nodes + nodes_of (drop l.instruction-index l.code)) 18446744073709551615 ≡ min (graph_nodes l.code l.functions) 18446744073709551615)
    × (l.nodes ≤ 18446744073709551615)
