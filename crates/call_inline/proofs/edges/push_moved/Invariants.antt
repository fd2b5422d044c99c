use Rattle.std.proofs.Common.{◌≡◌, ◌++◌, drop, map}
use Rattle.call_inline.specs.Copying.{lists_of, moved}
use Rattle.call_inline.proofs.edges.push_moved.Given as goal

abbrev pub invariant-loop-number : goal.invariant-loop-number
invariant-loop-number l =
    l.edges.items ++ map (moved (lists_of l.offsets) l.copied) (drop l.number l.own) ≡ l.initial.edges.items ++ map (moved (lists_of l.offsets) l.copied) l.own
