use Rattle.std.proofs.Common.{◌∙◌}
use Rattle.block_follow.proofs.Leaving.{all-within}
use Rattle.block_follow.proofs.outs.are_within.Goals as goal

pub returns-clause-tells : goal.returns-clause-tells
returns-clause-tells c = λ t. all-within c.args.graph.now c.args.node c.args.first c.args.end c.deref.result.now (c.deref.ensures.value ∙ c.in_ok-numbers.ensures) (c.all_within.ensures.tells t)
