use Rattle.std.proofs.Common.{arith, refl, rules, ◌≤◌, length}
use Rattle.walk_states.specs.Known.{plan_of}
use Rattle.block_follow.proofs.Beginning.{has-block}
use Rattle.block_follow.proofs.blocks.begins.Goals as goal

pub returns-in-Ok-clause-tells : goal.returns-in-Ok-clause-tells
returns-in-Ok-clause-tells c = λ t.
    let few : length c.args.places.now ≤ c.args.size = omega (arith, c.if-places-size.false) in
    has-block c.args.old.now c.args.new.now (plan_of c.args.known.now) c.args.places.now c.args.node c.count_cells.result c.args.first c.args.size
    c.count_cells.ensures few (c.if-not-is_first.ensures.tells refl) (c.if-not-are_inside.ensures.tells refl) c.requires.places c.requires.led (c.if-not-leads_from.ensures.means refl)
    (c.in_ok-are_sides.ensures.means (search rules)) c.in-Ok.ensures.means
