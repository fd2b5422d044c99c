use Rattle.std.proofs.Common.{◌≡◌, drop}
use Rattle.call_inline.specs.Copying.{copy_lays, each_from, lays_of, lists_of, written}
use Rattle.call_inline.proofs.nodes.set_nodes.Given as goal

abbrev pub invariant-loop-at : goal.invariant-loop-at
invariant-loop-at l =
    written l.nodes.items (each_from (lays_of l.graphs (lists_of l.offsets) l.copied) l.at (drop l.at l.own))
    ≡ written l.initial.nodes.items (copy_lays l.graphs (lists_of l.offsets) l.copied)
