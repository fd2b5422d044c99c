use Rattle.std.proofs.Common.{arith}
use Rattle.type_scopes.specs.Seen.{env_of, scope_of}
use Rattle.source_bindings.proofs.Arms.{constants_at, call_arm, sizeof_arm, cast_arm, enum_arm, tag_arm, words_step, parts_step, constants_step}
use Rattle.source_bindings.proofs.expressions.+bind.Goals as goal

pub bind_constants-bind_constant_at-requires-clause-this : goal.bind_constants-bind_constant_at-requires-clause-this
bind_constants-bind_constant_at-requires-clause-this t c = constants_at c.args.constants.now c.loop-i.i c.index-constants-i.result (omega arith) c.index-constants-i.is

pub bind_constants-loop-i-preserved : goal.bind_constants-loop-i-preserved
bind_constants-loop-i-preserved t c =
    constants_step c.args.model (scope_of c.args.region.scope) c.args.region.owner (env_of c.args.env.now) (env_of c.loop-i.env) (env_of c.bind_value.new.env) (env_of c.bind_constant_at.new.env)
    c.args.constants.now c.loop-i.i c.index-constants-i.result (omega arith) c.index-constants-i.is c.loop-i.invariant c.in_ok-bind_value.ensures c.in_ok-bind_constant_at.ensures

pub bind_expression-returns-in_ok-bind_expression-in-Call : goal.bind_expression-returns-in_ok-bind_expression-in-Call
bind_expression-returns-in_ok-bind_expression-in-Call t c =
    call_arm c.args.model (scope_of c.args.region.scope) c.args.region.owner (env_of c.args.env.now) (env_of c.bind_expression-in-Call.new.env) (env_of c.bind_parts.new.env)
    c.args.e.now c.deref-in-Call.result.now c.in-Call.f c.in-Call.field-1 c.in-Call.parts c.in-Call.field-3 c.deref-in-Call-2.result.now c.bind_parts.result
    c.in-Call.is c.deref-in-Call.ensures c.deref-in-Call-2.ensures.value c.in_ok-bind_expression-in-Call.ensures c.bind_parts.ensures

pub bind_expression-returns-in-SizeofType : goal.bind_expression-returns-in-SizeofType
bind_expression-returns-in-SizeofType t c =
    sizeof_arm c.args.model (scope_of c.args.region.scope) c.args.region.owner (env_of c.args.env.now) (env_of c.bind_words.new.env)
    c.args.e.now c.in-SizeofType.field-0 c.in-SizeofType.field-1 c.in-SizeofType.specs c.in-SizeofType.field-3 c.deref-in-SizeofType.result.now c.bind_words.result
    c.in-SizeofType.is c.deref-in-SizeofType.ensures.value c.bind_words.ensures

pub bind_expression-returns-in_ok-bind_words-in-Cast : goal.bind_expression-returns-in_ok-bind_words-in-Cast
bind_expression-returns-in_ok-bind_words-in-Cast t c =
    cast_arm c.args.model (scope_of c.args.region.scope) c.args.region.owner (env_of c.args.env.now) (env_of c.bind_words-in-Cast.new.env) (env_of c.bind_expression-in-Cast.new.env)
    c.args.e.now c.deref-in-Cast-2.result.now c.in-Cast.field-0 c.in-Cast.specs c.in-Cast.field-2 c.in-Cast.e c.deref-in-Cast.result.now c.bind_expression-in-Cast.result
    c.in-Cast.is c.deref-in-Cast-2.ensures c.deref-in-Cast.ensures.value c.in_ok-bind_words-in-Cast.ensures c.bind_expression-in-Cast.ensures

pub bind_parts-loop-part-preserved : goal.bind_parts-loop-part-preserved
bind_parts-loop-part-preserved t c =
    parts_step c.args.model (scope_of c.args.region.scope) c.args.region.owner (env_of c.args.env.now) (env_of c.loop-part.env) (env_of c.bind_expression.new.env)
    c.args.parts.now c.loop-part.part-index c.part-item.result c.deref.result.now (omega arith) c.part-item.is c.deref.ensures c.loop-part.invariant c.in_ok-bind_expression.ensures

pub bind_word-returns-in-Enum : goal.bind_word-returns-in-Enum
bind_word-returns-in-Enum t c =
    enum_arm c.args.model (scope_of c.args.region.scope) c.args.region.owner (env_of c.args.env.now) (env_of c.bind_constants.new.env)
    c.args.word.now c.in-Enum.field-0 c.in-Enum.field-1 c.in-Enum.constants c.in-Enum.field-3 c.in-Enum.field-4 c.deref.result.now c.bind_constants.result
    c.in-Enum.is c.deref.ensures.value c.bind_constants.ensures

pub bind_word-returns-in_ok-bind_constants-in-TagEnum : goal.bind_word-returns-in_ok-bind_constants-in-TagEnum
bind_word-returns-in_ok-bind_constants-in-TagEnum t c =
    tag_arm c.args.model (scope_of c.args.region.scope) c.args.region.owner (env_of c.args.env.now) (env_of c.bind_constants-in-TagEnum.new.env) (env_of c.bind_tag.new.env)
    c.args.word.now c.in-TagEnum.field-0 c.in-TagEnum.name c.in-TagEnum.at c.in-TagEnum.field-3 c.in-TagEnum.constants c.in-TagEnum.field-5 c.in-TagEnum.close
    c.deref-in-TagEnum.result.now c.deref-in-TagEnum-2.result.now c.bind_tag.result
    c.in-TagEnum.is c.deref-in-TagEnum.ensures.value c.deref-in-TagEnum-2.ensures.value c.in_ok-bind_constants-in-TagEnum.ensures c.bind_tag.ensures

pub bind_words-loop-word-preserved : goal.bind_words-loop-word-preserved
bind_words-loop-word-preserved t c =
    words_step c.args.model (scope_of c.args.region.scope) c.args.region.owner (env_of c.args.env.now) (env_of c.loop-word.env) (env_of c.bind_word.new.env)
    c.args.words.now c.loop-word.word-index c.word-item.result (omega arith) c.word-item.is c.loop-word.invariant c.in_ok-bind_word.ensures
