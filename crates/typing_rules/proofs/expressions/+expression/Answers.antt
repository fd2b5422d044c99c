use Rattle.std.proofs.Common.{arith}
use Rattle.first_broken.specs.Seen.{found_of}
use Rattle.type_scopes.specs.Seen.{env_of}
use Rattle.typing_rules.proofs.Arms.{parts_step, words_step, enumerators_step, enum_arm, tag_arm, call_arm, sizeof_arm, cast_arm, cond_arm}
use Rattle.typing_rules.proofs.expressions.+expression.Goals as goal

pub enumerators-loop-constant-preserved : goal.enumerators-loop-constant-preserved
enumerators-loop-constant-preserved t c =
    enumerators_step (env_of c.args.env.now) c.args.model c.args.bodies.now c.args.again.now c.args.constants.now c.loop-constant.constant-index c.constant-item.result (found_of c.loop-constant.all) (found_of c.with_enumerator-all.result)
    (omega arith) c.constant-item.is c.loop-constant.invariant c.with_enumerator-all.ensures

pub parts-loop-part-preserved : goal.parts-loop-part-preserved
parts-loop-part-preserved t c =
    parts_step (env_of c.args.env.now) c.args.model c.args.bodies.now c.args.again.now c.args.parts.now c.loop-part.part-index c.part-item.result c.deref.result.now (found_of c.loop-part.all) (found_of c.expression.result) (found_of c.both-all.result)
    (omega arith) c.part-item.is c.deref.ensures c.loop-part.invariant c.expression.ensures c.both-all.ensures

pub words-loop-one-preserved : goal.words-loop-one-preserved
words-loop-one-preserved t c =
    words_step (env_of c.args.env.now) c.args.model c.args.bodies.now c.args.again.now c.args.words.now c.loop-one.one-index c.one-item.result (found_of c.loop-one.all) (found_of c.word.result) (found_of c.both-all.result)
    (omega arith) c.one-item.is c.loop-one.invariant c.word.ensures c.both-all.ensures

pub word-returns-in-Enum : goal.word-returns-in-Enum
word-returns-in-Enum t c =
    enum_arm (env_of c.args.env.now) c.args.model c.args.bodies.now c.args.again.now c.args.word.now c.in-Enum.field-0 c.in-Enum.field-1 c.in-Enum.constants c.in-Enum.field-3 c.in-Enum.field-4 c.deref.result.now (found_of c.enumerators.result)
    c.in-Enum.is c.deref.ensures.value c.enumerators.ensures

pub word-returns-in-TagEnum : goal.word-returns-in-TagEnum
word-returns-in-TagEnum t c =
    tag_arm (env_of c.args.env.now) c.args.model c.args.bodies.now c.args.again.now c.args.word.now c.in-TagEnum.field-0 c.in-TagEnum.field-1 c.in-TagEnum.at c.in-TagEnum.field-3 c.in-TagEnum.constants c.in-TagEnum.field-5 c.in-TagEnum.field-6 c.deref-in-TagEnum.result.now
    (found_of c.declared_line.result) (found_of c.enumerators-list.result) (found_of c.both.result)
    c.in-TagEnum.is c.deref-in-TagEnum.ensures.value c.enumerators-list.ensures c.declared_line.ensures c.both.ensures

pub expression-returns-in-Call : goal.expression-returns-in-Call
expression-returns-in-Call t c =
    call_arm (env_of c.args.env.now) c.args.model c.args.bodies.now c.args.again.now c.args.e.now c.deref-in-Call.result.now c.deref-in-Call-3.result.now c.in-Call.f c.in-Call.bracket c.in-Call.arguments c.in-Call.field-3 c.deref-in-Call-2.result.now c.deref-in-Call-4.result.now
    (found_of c.expression-callee.result) (found_of c.parts.result) (found_of c.both-all.result) (found_of c.call_lines.result) (found_of c.unless.result)
    c.in-Call.is c.deref-in-Call.ensures c.deref-in-Call-2.ensures.value c.deref-in-Call-3.ensures c.deref-in-Call-4.ensures.value
    c.expression-callee.ensures c.parts.ensures c.both-all.ensures c.call_lines.ensures c.unless.ensures

pub expression-returns-in-SizeofType : goal.expression-returns-in-SizeofType
expression-returns-in-SizeofType t c =
    sizeof_arm (env_of c.args.env.now) c.args.model c.args.bodies.now c.args.again.now c.args.e.now c.in-SizeofType.field-0 c.in-SizeofType.field-1 c.in-SizeofType.specs c.in-SizeofType.field-3 c.deref-in-SizeofType.result.now (found_of c.words.result)
    c.in-SizeofType.is c.deref-in-SizeofType.ensures.value c.words.ensures

pub expression-returns-in-Cast : goal.expression-returns-in-Cast
expression-returns-in-Cast t c =
    cast_arm (env_of c.args.env.now) c.args.model c.args.bodies.now c.args.again.now c.args.e.now c.deref-in-Cast-2.result.now c.deref-in-Cast-3.result.now c.in-Cast.field-0 c.in-Cast.specs c.in-Cast.field-2 c.in-Cast.e c.deref-in-Cast.result.now
    (found_of c.words-list.result) (found_of c.expression-in-Cast.result) (found_of c.both-all-in-Cast.result) (found_of c.cast_lines.result) (found_of c.unless-in-Cast.result)
    c.in-Cast.is c.deref-in-Cast.ensures.value c.deref-in-Cast-2.ensures c.deref-in-Cast-3.ensures
    c.words-list.ensures c.expression-in-Cast.ensures c.both-all-in-Cast.ensures c.cast_lines.ensures c.unless-in-Cast.ensures

pub expression-returns-in-Cond : goal.expression-returns-in-Cond
expression-returns-in-Cond t c =
    cond_arm (env_of c.args.env.now) c.args.model c.args.bodies.now c.args.again.now c.args.e.now c.deref-in-Cond.result.now c.deref-in-Cond-2.result.now c.deref-in-Cond-3.result.now c.deref-in-Cond-4.result.now c.deref-in-Cond-5.result.now c.deref-in-Cond-6.result.now
    c.in-Cond.c c.in-Cond.a c.in-Cond.b c.in-Cond.field-1 c.in-Cond.field-3
    (found_of c.expression-test.result) (found_of c.expression-in-Cond.result) (found_of c.both-first.result) (found_of c.expression-in-Cond-2.result) (found_of c.both-all-in-Cond.result) (found_of c.cond_lines.result) (found_of c.unless-in-Cond.result)
    c.in-Cond.is c.deref-in-Cond.ensures c.deref-in-Cond-2.ensures c.deref-in-Cond-3.ensures c.deref-in-Cond-4.ensures c.deref-in-Cond-5.ensures c.deref-in-Cond-6.ensures
    c.expression-test.ensures c.expression-in-Cond.ensures c.both-first.ensures c.expression-in-Cond-2.ensures c.both-all-in-Cond.ensures c.cond_lines.ensures c.unless-in-Cond.ensures
