use Rattle.std.proofs.Common.{◌∙◌, refl}
use Rattle.block_steps.proofs.Leaving.{sides-all}
use Rattle.block_steps.proofs.sides.are_sides.Goals as goal

pub returns-clause-means : goal.returns-clause-means
returns-clause-means c = λ t.
    sides-all c.args.graph.now c.args.node c.args.one c.args.other c.deref.result.now (c.if-not-is_plain.ensures.means refl)
    (c.deref.ensures.value ∙ c.in_ok-numbers.ensures) (c.are_among.ensures.means t)
