use Rattle.std.proofs.Common.{refl}
use Rattle.walk_states.specs.Known.{plan_of}
use Rattle.block_places.proofs.Covering.{are-led, place-is}
use Rattle.block_places.proofs.places.tested.Goals as goal

pub returns-clause-place : goal.returns-clause-place
returns-clause-place c =
    place-is c.args.graph.now (plan_of c.args.known.now) c.args.node c.args.ways c.args.numbers.now c.requires.plain c.requires.all
    (c.if-not-are_covered.ensures.tells refl) (c.if-not-is_regular.ensures.regular refl)

pub returns-clause-led : goal.returns-clause-led
returns-clause-led c =
    are-led c.args.graph.now c.args.node.0 c.args.ways (c.if-not-are_leading.ensures.tells refl) (c.if-not-is_regular.ensures.total refl)
