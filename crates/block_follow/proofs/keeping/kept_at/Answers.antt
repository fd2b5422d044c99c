use Rattle.std.proofs.Common.{arith}
use Rattle.walk_states.specs.Known.{plan_of}
use Rattle.block_follow.proofs.Growing.{weaken_some}
use Rattle.block_follow.proofs.Leaving.{made-of}
use Rattle.block_follow.proofs.keeping.kept_at.Goals as goal

pub returns-clause-made : goal.returns-clause-made
returns-clause-made c =
    weaken_some c.kept_edge.result _ _
    (λ n copies. made-of c.args.old.now c.args.new.now (plan_of c.args.known.now) c.args.node c.args.edge.0 c.args.at n c.edges-edges.result.now
    c.index-edges-number.result c.edges-edges.ensures.value (omega (arith, c.if-number-edges.false)) c.index-edges-number.is copies)
    c.kept_edge.ensures.copies
