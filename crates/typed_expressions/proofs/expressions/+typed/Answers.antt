use Rattle.std.proofs.Common.{◌∙◌, ap, refl, arith}
use Rattle.c_tree.specs.View.{expr}
use Rattle.c_typed.specs.Tree.{vConvert}
use Rattle.c_typed.specs.View.{value}
use Rattle.c_types.specs.Elaborated as el
use Rattle.type_scopes.specs.Seen.{env_of}
use Rattle.typed_expressions.proofs.Arms.{call_arm, cast_arm, sizeof_arm, comma_arm, binary_arm, assign_arm, index_arm, values_step, arguments_step}
use Rattle.typed_expressions.proofs.expressions.+typed.Goals as goal

pub typed_list-loop-part-preserved : goal.typed_list-loop-part-preserved
typed_list-loop-part-preserved t c =
    values_step (env_of c.args.env.now) c.args.model c.args.bodies.now c.loop-part.values.items c.push.new.self.items c.into_inner.result
    c.args.parts.now c.loop-part.part-index c.part-item.result c.deref.result.now (omega arith) c.part-item.is c.deref.ensures c.loop-part.invariant
    (ap value c.into_inner.ensures ∙ c.in_ok-value.ensures) c.in_ok-push.ensures.items

pub typed_arguments-loop-i-preserved : goal.typed_arguments-loop-i-preserved
typed_arguments-loop-i-preserved t c =
    arguments_step (env_of c.args.env.now) c.args.model c.args.bodies.now c.args.kinds.now c.loop-i.values.items c.push.new.self.items c.into_inner.result
    c.args.parts.now c.loop-i.i c.index-parts-i.result c.deref.result.now c.parameter_kind.result (omega arith) c.index-parts-i.is c.deref.ensures c.parameter_kind.ensures c.loop-i.invariant
    (ap value c.into_inner.ensures ∙ c.in_ok-argument.ensures ∙ ap (vConvert c.parameter_kind.result) c.in_ok-value.ensures) c.in_ok-push.ensures.items

pub typed_value-returns-in-SizeofType : goal.typed_value-returns-in-SizeofType
typed_value-returns-in-SizeofType t c =
    sizeof_arm (env_of c.args.env.now) c.args.model c.args.bodies.now c.args.e.now c.in-SizeofType.field-0 c.in-SizeofType.field-1 c.in-SizeofType.specs c.in-SizeofType.field-3 _ c.size_of_words.result
    c.in-SizeofType.is refl c.size_of_words.ensures

pub typed_value-returns-in_ok-value-in-Cast : goal.typed_value-returns-in_ok-value-in-Cast
typed_value-returns-in_ok-value-in-Cast t c =
    cast_arm (env_of c.args.env.now) c.args.model c.args.bodies.now c.args.e.now c.deref-in-Cast.result.now c.in-Cast.field-0 c.in-Cast.specs c.in-Cast.field-2 c.in-Cast.e _ _ c.cast_of.result
    c.in-Cast.is c.deref-in-Cast.ensures refl c.in_ok-value-in-Cast.ensures c.cast_of.ensures

pub typed_value-returns-in_ok-values-in-Call : goal.typed_value-returns-in_ok-values-in-Call
typed_value-returns-in_ok-values-in-Call t c =
    call_arm (env_of c.args.env.now) c.args.model c.args.bodies.now c.args.e.now c.deref-in-Call.result.now c.deref-in-Call-3.result.now c.in-Call.f c.in-Call.bracket c.in-Call.parts c.in-Call.field-3
    c.deref-in-Call-2.result.now c.parameters_of-kinds.result.now _ c.called_name.result
    c.in-Call.is c.deref-in-Call.ensures c.deref-in-Call-3.ensures c.deref-in-Call-2.ensures.value c.parameters_of-kinds.ensures c.in_ok-values-in-Call.ensures c.called_name.ensures

pub typed_value-returns-in_ok-typed_list-in-Comma : goal.typed_value-returns-in_ok-typed_list-in-Comma
typed_value-returns-in_ok-typed_list-in-Comma t c =
    comma_arm (env_of c.args.env.now) c.args.model c.args.bodies.now c.args.e.now c.in-Comma.parts c.deref-in-Comma.result.now _ c.comma.result
    c.in-Comma.is c.deref-in-Comma.ensures.value c.in_ok-typed_list-in-Comma.ensures c.comma.ensures

pub typed_value-returns-in_ok-y-in-Binary : goal.typed_value-returns-in_ok-y-in-Binary
typed_value-returns-in_ok-y-in-Binary t c =
    binary_arm (env_of c.args.env.now) c.args.model c.args.bodies.now c.args.e.now c.in-Binary.a.value c.in-Binary.b.value c.in-Binary.op c.in-Binary.at c.deref-in-Binary-3.result.now c.deref-in-Binary-4.result.now _ _ c.binary_of.result
    (ap expr c.in-Binary.is) c.deref-in-Binary-3.ensures c.deref-in-Binary-4.ensures
    (c.in_ok-x-in-Binary.ensures ∙ ap (λ z. el.value (env_of c.args.env.now) c.args.model c.args.bodies.now (expr z)) c.deref-in-Binary.ensures)
    (c.in_ok-y-in-Binary.ensures ∙ ap (λ z. el.value (env_of c.args.env.now) c.args.model c.args.bodies.now (expr z)) c.deref-in-Binary-2.ensures)
    c.binary_of.ensures

pub typed_value-returns-in_ok-y-in-Assign : goal.typed_value-returns-in_ok-y-in-Assign
typed_value-returns-in_ok-y-in-Assign t c =
    assign_arm (env_of c.args.env.now) c.args.model c.args.bodies.now c.args.e.now c.in-Assign.a.value c.in-Assign.b.value c.in-Assign.op c.in-Assign.at c.deref-in-Assign-3.result.now c.deref-in-Assign-4.result.now _ _ c.assigned_of.result
    (ap expr c.in-Assign.is) c.deref-in-Assign-3.ensures c.deref-in-Assign-4.ensures
    (c.in_ok-target-in-Assign.ensures ∙ ap (λ z. el.goal (env_of c.args.env.now) c.args.model c.args.bodies.now (expr z)) c.deref-in-Assign.ensures)
    (c.in_ok-y-in-Assign.ensures ∙ ap (λ z. el.value (env_of c.args.env.now) c.args.model c.args.bodies.now (expr z)) c.deref-in-Assign-2.ensures)
    c.assigned_of.ensures

pub typed_value-returns-in_ok-index-in-Index : goal.typed_value-returns-in_ok-index-in-Index
typed_value-returns-in_ok-index-in-Index t c =
    index_arm (env_of c.args.env.now) c.args.model c.args.bodies.now c.args.e.now c.in-Index.a.value c.in-Index.i.value c.deref-in-Index.result.now c.deref-in-Index-2.result.now c.in-Index.at c.in-Index.field-3 c.kind_at.result _ c.indexed.result
    (ap expr c.in-Index.is) c.deref-in-Index.ensures c.deref-in-Index-2.ensures c.kind_at.ensures c.in_ok-index-in-Index.ensures c.indexed.ensures
