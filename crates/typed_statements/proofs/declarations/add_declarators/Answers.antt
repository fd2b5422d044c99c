use Rattle.std.proofs.Common.{arith}
use Rattle.c_typed.specs.View.{steps_of}
use Rattle.type_scopes.specs.Seen.{env_of}
use Rattle.typed_statements.proofs.Rows.{declaring_step}
use Rattle.typed_statements.proofs.declarations.add_declarators.Goals as goal

pub loop-declarator-preserved : goal.loop-declarator-preserved
loop-declarator-preserved c =
    declaring_step (env_of c.args.env.now) c.args.model c.args.bodies.now (steps_of c.args.steps.now.items) (steps_of c.loop-declarator.steps.items) (steps_of c.add_declarator.new.steps.items)
    c.args.declarators.now c.loop-declarator.declarator-index c.declarator-item.result (omega arith) c.declarator-item.is c.loop-declarator.invariant c.in_ok-add_declarator.ensures
