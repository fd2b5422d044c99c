use Rattle.std.proofs.Common.{◌≡◌, ◌++◌, drop, map}
use Rattle.call_inline.specs.Copying.{lists_of, loop_in, main_copy, main_loops}
use Rattle.call_inline.proofs.inlining.loops_in_main.Given as goal

abbrev pub invariant-loop-a_loop : goal.invariant-loop-a_loop
invariant-loop-a_loop l =
    l.loops.items ++ map (loop_in (lists_of l.offsets) (main_copy l.graphs)) (drop l.a_loop-index l.own) ≡ main_loops l.graphs (lists_of l.offsets)
