use Rattle.std.proofs.Common.{◌∙◌, ap, arith}
use Rattle.std.specs.Option.{option_copied, option_map}
use Rattle.c_tree.specs.View.{declaration_of}
use Rattle.c_typed.specs.View.{steps_of, step}
use Rattle.type_scopes.specs.Seen.{env_of}
use Rattle.typed_statements.proofs.Rows.{block_arm, declared_more, other_more}
use Rattle.typed_statements.proofs.statements.+typed.Goals as goal
use Rattle.typed_statements.proofs.statements.+typed.Goals.{typed_statements-in-Some+in_ok-add_declaration-in-Some, typed_statements-in-None+in_ok-step-in-None+in_ok-push_step-in-None}

pub typed_statement-returns-in_ok-steps-in-Block : goal.typed_statement-returns-in_ok-steps-in-Block
typed_statement-returns-in_ok-steps-in-Block t c =
    block_arm (env_of c.args.env.now) c.args.model c.args.bodies.now c.args.result_kind c.args.statement.now c.in-Block.field-0 c.in-Block.statements c.in-Block.field-2 c.deref.result.now _ c.block.result
    c.in-Block.is c.deref.ensures.value c.in_ok-steps-in-Block.ensures c.block.ensures

pub typed_statements-loop-statement-preserved : goal.typed_statements-loop-statement-preserved
typed_statements-loop-statement-preserved t c =
    elim c.match-declaration_in.branch [
      | typed_statements-in-Some+in_ok-add_declaration-in-Some w ↦
          ap (λ z. steps_of z.items) w.steps-is
          ∙ declared_more (env_of c.args.env.now) c.args.model c.args.bodies.now c.args.result_kind (steps_of c.loop-statement.steps.items) (steps_of w.add_declaration.new.steps.items)
          c.args.statements.now c.loop-statement.statement-index c.statement-item.result (option_map declaration_of (option_copied c.declaration_in.result)) (declaration_of w.in-Some.declaration.now)
          (omega arith) c.statement-item.is c.declaration_in.ensures (ap (λ z. option_map declaration_of (option_copied z)) w.in-Some.is) c.loop-statement.invariant w.in_ok-add_declaration-in-Some.ensures
      | typed_statements-in-None+in_ok-step-in-None+in_ok-push_step-in-None w ↦
          ap (λ z. steps_of z.items) w.steps-is
          ∙ other_more (env_of c.args.env.now) c.args.model c.args.bodies.now c.args.result_kind (steps_of c.loop-statement.steps.items) (steps_of w.push_step.new.steps.items) (step w.into_inner.result)
          c.args.statements.now c.loop-statement.statement-index c.statement-item.result (option_map declaration_of (option_copied c.declaration_in.result))
          (omega arith) c.statement-item.is c.declaration_in.ensures (ap (λ z. option_map declaration_of (option_copied z)) w.in-None.is) c.loop-statement.invariant
          (ap step w.into_inner.ensures ∙ w.in_ok-step-in-None.ensures) w.in_ok-push_step-in-None.ensures
    ]
