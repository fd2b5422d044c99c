use Rattle.std.proofs.Common.{arith}
use Rattle.first_broken.specs.Seen.{found_of}
use Rattle.type_scopes.specs.Seen.{env_of}
use Rattle.source_rules.proofs.Arms.{declarators_step}
use Rattle.source_rules.proofs.declarations.declarators_found.Goals as goal

pub loop-declarator-preserved : goal.loop-declarator-preserved
loop-declarator-preserved c =
    declarators_step (env_of c.args.env.now) c.args.model c.args.bodies.now c.args.again.now c.args.is_static c.args.declarators.now c.loop-declarator.declarator-index c.declarator-item.result (found_of c.loop-declarator.all) (found_of c.with_declarator-all.result)
    (omega arith) c.declarator-item.is c.loop-declarator.invariant c.with_declarator-all.ensures
