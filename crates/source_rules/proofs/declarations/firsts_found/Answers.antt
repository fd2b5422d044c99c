use Rattle.std.proofs.Common.{arith}
use Rattle.first_broken.specs.Seen.{found_of}
use Rattle.type_scopes.specs.Seen.{env_of}
use Rattle.source_rules.proofs.Arms.{firsts_step}
use Rattle.source_rules.proofs.declarations.firsts_found.Goals as goal

pub loop-part-preserved : goal.loop-part-preserved
loop-part-preserved c =
    firsts_step (env_of c.args.env.now) c.args.model c.args.bodies.now c.args.again.now c.args.is_static c.args.parts.now c.loop-part.part-index c.part-item.result c.deref.result.now (found_of c.loop-part.all) (found_of c.first_found-first.result) (found_of c.both-all.result)
    (omega arith) c.part-item.is c.deref.ensures c.loop-part.invariant c.first_found-first.ensures c.both-all.ensures
