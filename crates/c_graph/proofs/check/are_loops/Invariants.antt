use Rattle.std.proofs.Common.{take, All}
use Rattle.c_graph.specs.Shape.{IsNodeOf}
use Rattle.c_graph.proofs.check.are_loops.Given as goal

abbrev pub invariant-loop-a_loop : goal.invariant-loop-a_loop
invariant-loop-a_loop l = All (λ x. IsNodeOf l.nodes x.node) (take l.a_loop-index l.loops)
