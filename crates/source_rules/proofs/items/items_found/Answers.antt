use Rattle.std.proofs.Common.{arith}
use Rattle.first_broken.specs.Seen.{found_of}
use Rattle.type_scopes.specs.Seen.{env_of}
use Rattle.source_rules.proofs.Arms.{items_step}
use Rattle.source_rules.proofs.items.items_found.Goals as goal

pub loop-item-preserved : goal.loop-item-preserved
loop-item-preserved c =
    items_step (env_of c.args.env.now) c.args.model c.args.bodies.now c.args.again.now c.args.items.now c.loop-item.item-index c.item-item.result (found_of c.loop-item.all) (found_of c.in_ok-own.own) (found_of c.both-all.result)
    (omega arith) c.item-item.is c.loop-item.invariant c.in_ok-own.ensures c.both-all.ensures
