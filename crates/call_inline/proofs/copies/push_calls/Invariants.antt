use Rattle.std.proofs.Common.{◌≡◌, ◌++◌, drop}
use Rattle.call_inline.specs.Copying.{calls_of, each_from, lists_of}
use Rattle.call_inline.proofs.copies.push_calls.Given as goal

abbrev pub invariant-loop-at : goal.invariant-loop-at
invariant-loop-at l =
    l.copies.items ++ each_from (calls_of (lists_of l.offsets) l.copied) l.at (drop l.at l.nodes)
    ≡ l.initial.copies.items ++ each_from (calls_of (lists_of l.offsets) l.copied) 0 l.nodes
