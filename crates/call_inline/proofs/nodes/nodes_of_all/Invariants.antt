use Rattle.std.proofs.Common.{◌≡◌, drop}
use Rattle.call_inline.specs.Copying.{all_lays, copied_nodes, lists_of, written}
use Rattle.call_inline.proofs.nodes.nodes_of_all.Given as goal

abbrev pub invariant-loop-number : goal.invariant-loop-number
invariant-loop-number l =
    written l.nodes.items (all_lays l.graphs (lists_of l.offsets) (drop l.number l.copies)) ≡ copied_nodes l.graphs (lists_of l.offsets) l.copies l.size
