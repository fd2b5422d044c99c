use Rattle.std.proofs.Common.{◌∙◌}
use Rattle.block_follow.proofs.Leaving.{all-over}
use Rattle.block_follow.proofs.outs.are_over.Goals as goal

pub returns-clause-tells : goal.returns-clause-tells
returns-clause-tells c = λ t. all-over c.args.graph.now c.args.node c.deref.result.now (c.deref.ensures.value ∙ c.in_ok-numbers.ensures) (c.all_over.ensures.tells t)
