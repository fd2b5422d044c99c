use Rattle.std.proofs.Common.{refl}
use Rattle.plan_tests.proofs.Passing.{planned}
use Rattle.plan_tests.proofs.plan.is_plan.Goals as goal

pub returns-then-are_reads-clause-tells : goal.returns-then-are_reads-clause-tells
returns-then-are_reads-clause-tells c y =
    planned c.args.graph.now c.args.known.now c.entry.result c.edges.result.now c.edges-then-are_reads.result.now c.loops.result.now c.terms.result.now
    c.entry.ensures.flow
    c.entry.ensures.value c.edges.ensures.value c.edges-then-are_reads.ensures.value c.loops.ensures.value c.terms.ensures.value (c.if-not-is_entry.ensures.tells refl)
    (c.if-not-are_steps.ensures.tells refl) (c.if-not-are_watched.ensures.tells refl) (c.if-not-are_listed.ensures.tells refl) (c.are_reads.ensures.tells c.if-are_reads.true) (c.all_flow.ensures.tells y)
