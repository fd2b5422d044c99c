use Rattle.std.proofs.Common.{ap, refl}
use Rattle.c_tree.specs.View.{statement}
use Rattle.type_scopes.specs.Seen.{env_of, scope_of}
use Rattle.source_bindings.proofs.Arms.{block_arm, guarded_arm, arms_arm, do_arm}
use Rattle.source_bindings.proofs.statements.+bind_in.Goals as goal

pub bind_statement-returns-in-Block : goal.bind_statement-returns-in-Block
bind_statement-returns-in-Block t c =
    block_arm c.args.model (scope_of c.args.region.scope) c.args.region.owner (env_of c.args.env.now) (env_of c.bind_block.new.env)
    c.args.statement.now c.in-Block.open c.in-Block.statements c.in-Block.close c.bind_block.result c.in-Block.is c.bind_block.ensures

pub bind_statement-returns-in_ok-bind_condition-in-If : goal.bind_statement-returns-in_ok-bind_condition-in-If
bind_statement-returns-in_ok-bind_condition-in-If t c =
    guarded_arm c.args.model (scope_of c.args.region.scope) c.args.region.owner (env_of c.args.env.now) (env_of c.bind_condition.new.env) (env_of c.bind_inside.new.env)
    c.args.statement.now c.in-If.head c.in-If.s.value c.deref-in-If.result.now c.end_of.result c.bind_inside.result _
    (ap statement c.in-If.is) c.deref-in-If.ensures c.end_of.ensures refl c.in_ok-bind_condition-in-If.ensures c.bind_inside.ensures

pub bind_statement-returns-in_ok-bind_condition-in-While : goal.bind_statement-returns-in_ok-bind_condition-in-While
bind_statement-returns-in_ok-bind_condition-in-While t c =
    guarded_arm c.args.model (scope_of c.args.region.scope) c.args.region.owner (env_of c.args.env.now) (env_of c.bind_condition-in-While.new.env) (env_of c.bind_inside-in-While.new.env)
    c.args.statement.now c.in-While.head c.in-While.s.value c.deref-in-While.result.now c.end_of-in-While.result c.bind_inside-in-While.result _
    (ap statement c.in-While.is) c.deref-in-While.ensures c.end_of-in-While.ensures refl c.in_ok-bind_condition-in-While.ensures c.bind_inside-in-While.ensures

pub bind_statement-returns-in_ok-bind_condition-in-Switch : goal.bind_statement-returns-in_ok-bind_condition-in-Switch
bind_statement-returns-in_ok-bind_condition-in-Switch t c =
    guarded_arm c.args.model (scope_of c.args.region.scope) c.args.region.owner (env_of c.args.env.now) (env_of c.bind_condition-in-Switch.new.env) (env_of c.bind_inside-in-Switch.new.env)
    c.args.statement.now c.in-Switch.head c.in-Switch.s.value c.deref-in-Switch.result.now c.end_of-in-Switch.result c.bind_inside-in-Switch.result _
    (ap statement c.in-Switch.is) c.deref-in-Switch.ensures c.end_of-in-Switch.ensures refl c.in_ok-bind_condition-in-Switch.ensures c.bind_inside-in-Switch.ensures

pub bind_statement-returns-in_ok-bind_inside-in-IfElse : goal.bind_statement-returns-in_ok-bind_inside-in-IfElse
bind_statement-returns-in_ok-bind_inside-in-IfElse t c =
    arms_arm c.args.model (scope_of c.args.region.scope) c.args.region.owner (env_of c.args.env.now) (env_of c.bind_condition-in-IfElse.new.env) (env_of c.bind_inside-in-IfElse.new.env) (env_of c.bind_inside-in-IfElse-2.new.env)
    c.args.statement.now c.in-IfElse.head c.in-IfElse.a.value c.in-IfElse.b.value c.deref-in-IfElse.result.now c.in-IfElse.at c.end_of-in-IfElse.result c.bind_inside-in-IfElse-2.result _
    (ap statement c.in-IfElse.is) c.deref-in-IfElse.ensures c.end_of-in-IfElse.ensures refl c.in_ok-bind_condition-in-IfElse.ensures c.in_ok-bind_inside-in-IfElse.ensures c.bind_inside-in-IfElse-2.ensures

pub bind_statement-returns-in_ok-bind_behind-in-Do : goal.bind_statement-returns-in_ok-bind_behind-in-Do
bind_statement-returns-in_ok-bind_behind-in-Do t c =
    do_arm c.args.model (scope_of c.args.region.scope) c.args.region.owner (env_of c.args.env.now) (env_of c.bind_behind.new.env) _
    c.args.statement.now c.in-Do.head c.in-Do.s.value c.in-Do.at c.in-Do.semicolon c.bind_do_condition.result _
    (ap statement c.in-Do.is) refl c.in_ok-bind_behind-in-Do.ensures c.bind_do_condition.ensures
