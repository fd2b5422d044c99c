use Rattle.explore.proofs.Trying.{at-nodes}
use Rattle.explore.proofs.strategy.below_of.Goals as goal

pub below_of-requires-clause-nodes : goal.below_of-requires-clause-nodes
below_of-requires-clause-nodes c =
    at-nodes c.args.graph.now c.args.work.now.unwinding _ c.entry-entry.ensures.flow c.requires.legal c.requires.follows.nodes
