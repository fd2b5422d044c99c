use Rattle.std.proofs.Common.{◌≡◌, ◌++◌, drop}
use Rattle.call_inline.specs.Copying.{all_edges, lists_of}
use Rattle.call_inline.proofs.edges.edges_of_all.Given as goal

abbrev pub invariant-loop-number : goal.invariant-loop-number
invariant-loop-number l = l.edges.items ++ all_edges l.graphs (lists_of l.offsets) (drop l.number l.copies) ≡ all_edges l.graphs (lists_of l.offsets) l.copies
