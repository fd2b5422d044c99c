use Rattle.std.proofs.Common.{rules, arith, ap, ◌∙◌}
use Rattle.c_tree.specs.Height as tall
use Rattle.c_tree.specs.Highest as most
use Rattle.c_tree.specs.View as seen
use Rattle.c_tree.specs.declared.tree.Enumerator.TheViews.{the_lemmas}
use Rattle.c_tree.proofs.Heights.{height_Call, height_Comma, height_Cast, height_SizeofType, height_Enum, height_TagEnum}
use Rattle.c_tree.proofs.nodes.+height_of.Goals as goal

pub height_of_expr-height_of_parts-requires : goal.height_of_expr-height_of_parts-requires
height_of_expr-height_of_parts-requires t c =
    let e = ap (λ x. tall.height (seen.expr x)) c.in-Call.is ∙ height_Call c.in-Call.f c.in-Call.field-1 c.in-Call.parts c.in-Call.field-3 in
    let p = ap (most.highest most.part_height) c.deref-in-Call-2.ensures.value in
    (search (rules, the_lemmas), omega (arith, e, p, c.requires))

pub height_of_expr-overflow_add-result-in-Call : goal.height_of_expr-overflow_add-result-in-Call
height_of_expr-overflow_add-result-in-Call t c =
    let e = ap (λ x. tall.height (seen.expr x)) c.in-Call.is ∙ height_Call c.in-Call.f c.in-Call.field-1 c.in-Call.parts c.in-Call.field-3 in
    let p = ap (most.highest most.part_height) c.deref-in-Call-2.ensures.value in
    omega (arith, e, p, c.requires, c.height_of_expr-in-Call.ensures, c.height_of_parts.ensures, c.max.ensures, ap (λ x. tall.height (seen.expr x)) c.deref-in-Call.ensures)

pub height_of_expr-height_of_words-requires : goal.height_of_expr-height_of_words-requires
height_of_expr-height_of_words-requires t c =
    let e = ap (λ x. tall.height (seen.expr x)) c.in-SizeofType.is ∙ height_SizeofType c.in-SizeofType.field-0 c.in-SizeofType.field-1 c.in-SizeofType.specs c.in-SizeofType.field-3 in
    let p = ap (most.highest most.spec_height) c.deref-in-SizeofType.ensures.value in
    (search (rules, the_lemmas), omega (arith, e, p, c.requires))

pub height_of_expr-overflow_add-result-in-SizeofType : goal.height_of_expr-overflow_add-result-in-SizeofType
height_of_expr-overflow_add-result-in-SizeofType t c =
    let e = ap (λ x. tall.height (seen.expr x)) c.in-SizeofType.is ∙ height_SizeofType c.in-SizeofType.field-0 c.in-SizeofType.field-1 c.in-SizeofType.specs c.in-SizeofType.field-3 in
    let p = ap (most.highest most.spec_height) c.deref-in-SizeofType.ensures.value in
    omega (arith, e, p, c.requires, c.height_of_words.ensures)

pub height_of_expr-height_of_words-requires-in-Cast : goal.height_of_expr-height_of_words-requires-in-Cast
height_of_expr-height_of_words-requires-in-Cast t c =
    let e = ap (λ x. tall.height (seen.expr x)) c.in-Cast.is ∙ height_Cast c.in-Cast.field-0 c.in-Cast.specs c.in-Cast.field-2 c.in-Cast.e in
    let p = ap (most.highest most.spec_height) c.deref-in-Cast.ensures.value in
    (search (rules, the_lemmas), omega (arith, e, p, c.requires))

pub height_of_expr-overflow_add-height_of_words : goal.height_of_expr-overflow_add-height_of_words
height_of_expr-overflow_add-height_of_words t c =
    let e = ap (λ x. tall.height (seen.expr x)) c.in-Cast.is ∙ height_Cast c.in-Cast.field-0 c.in-Cast.specs c.in-Cast.field-2 c.in-Cast.e in
    let p = ap (most.highest most.spec_height) c.deref-in-Cast.ensures.value in
    omega (arith, e, p, c.requires, c.height_of_words-in-Cast.ensures)

pub height_of_expr-overflow_add-result-in-Cast : goal.height_of_expr-overflow_add-result-in-Cast
height_of_expr-overflow_add-result-in-Cast t c =
    let e = ap (λ x. tall.height (seen.expr x)) c.in-Cast.is ∙ height_Cast c.in-Cast.field-0 c.in-Cast.specs c.in-Cast.field-2 c.in-Cast.e in
    let p = ap (most.highest most.spec_height) c.deref-in-Cast.ensures.value in
    omega (arith, e, p, c.requires, c.height_of_words-in-Cast.ensures, c.height_of_expr-in-Cast.ensures, c.max-in-Cast.ensures, ap (λ x. tall.height (seen.expr x)) c.deref-in-Cast-2.ensures)

pub height_of_expr-height_of_parts-requires-in-Comma : goal.height_of_expr-height_of_parts-requires-in-Comma
height_of_expr-height_of_parts-requires-in-Comma t c =
    let e = ap (λ x. tall.height (seen.expr x)) c.in-Comma.is ∙ height_Comma c.in-Comma.parts in
    let p = ap (most.highest most.part_height) c.deref-in-Comma.ensures.value in
    (search (rules, the_lemmas), omega (arith, e, p, c.requires))

pub height_of_expr-returns-in-Call : goal.height_of_expr-returns-in-Call
height_of_expr-returns-in-Call t c =
    let e = ap (λ x. tall.height (seen.expr x)) c.in-Call.is ∙ height_Call c.in-Call.f c.in-Call.field-1 c.in-Call.parts c.in-Call.field-3 in
    let p = ap (most.highest most.part_height) c.deref-in-Call-2.ensures.value in
    omega (arith, e, p, c.requires, c.height_of_expr-in-Call.ensures, c.height_of_parts.ensures, c.max.ensures, ap (λ x. tall.height (seen.expr x)) c.deref-in-Call.ensures)

pub height_of_expr-returns-in-SizeofType : goal.height_of_expr-returns-in-SizeofType
height_of_expr-returns-in-SizeofType t c =
    let e = ap (λ x. tall.height (seen.expr x)) c.in-SizeofType.is ∙ height_SizeofType c.in-SizeofType.field-0 c.in-SizeofType.field-1 c.in-SizeofType.specs c.in-SizeofType.field-3 in
    let p = ap (most.highest most.spec_height) c.deref-in-SizeofType.ensures.value in
    omega (arith, e, p, c.requires, c.height_of_words.ensures)

pub height_of_expr-returns-in-Cast : goal.height_of_expr-returns-in-Cast
height_of_expr-returns-in-Cast t c =
    let e = ap (λ x. tall.height (seen.expr x)) c.in-Cast.is ∙ height_Cast c.in-Cast.field-0 c.in-Cast.specs c.in-Cast.field-2 c.in-Cast.e in
    let p = ap (most.highest most.spec_height) c.deref-in-Cast.ensures.value in
    omega (arith, e, p, c.requires, c.height_of_words-in-Cast.ensures, c.height_of_expr-in-Cast.ensures, c.max-in-Cast.ensures, ap (λ x. tall.height (seen.expr x)) c.deref-in-Cast-2.ensures)

pub height_of_word-height_of_enumerators-requires : goal.height_of_word-height_of_enumerators-requires
height_of_word-height_of_enumerators-requires t c =
    let e = ap most.spec_height c.in-Enum.is ∙ height_Enum c.in-Enum.field-0 c.in-Enum.field-1 c.in-Enum.constants c.in-Enum.field-3 c.in-Enum.field-4 in
    let p = ap (most.highest most.enumerator_height) c.deref.ensures.value in
    (search (rules, the_lemmas), omega (arith, e, p, c.requires))

pub height_of_word-overflow_add-result : goal.height_of_word-overflow_add-result
height_of_word-overflow_add-result t c =
    let e = ap most.spec_height c.in-Enum.is ∙ height_Enum c.in-Enum.field-0 c.in-Enum.field-1 c.in-Enum.constants c.in-Enum.field-3 c.in-Enum.field-4 in
    let p = ap (most.highest most.enumerator_height) c.deref.ensures.value in
    omega (arith, e, p, c.requires, c.height_of_enumerators.ensures)

pub height_of_word-height_of_enumerators-requires-in-TagEnum : goal.height_of_word-height_of_enumerators-requires-in-TagEnum
height_of_word-height_of_enumerators-requires-in-TagEnum t c =
    let e = ap most.spec_height c.in-TagEnum.is ∙ height_TagEnum c.in-TagEnum.field-0 c.in-TagEnum.field-1 c.in-TagEnum.field-2 c.in-TagEnum.field-3 c.in-TagEnum.constants c.in-TagEnum.field-5 c.in-TagEnum.field-6 in
    let p = ap (most.highest most.enumerator_height) c.deref-in-TagEnum.ensures.value in
    (search (rules, the_lemmas), omega (arith, e, p, c.requires))

pub height_of_word-overflow_add-result-in-TagEnum : goal.height_of_word-overflow_add-result-in-TagEnum
height_of_word-overflow_add-result-in-TagEnum t c =
    let e = ap most.spec_height c.in-TagEnum.is ∙ height_TagEnum c.in-TagEnum.field-0 c.in-TagEnum.field-1 c.in-TagEnum.field-2 c.in-TagEnum.field-3 c.in-TagEnum.constants c.in-TagEnum.field-5 c.in-TagEnum.field-6 in
    let p = ap (most.highest most.enumerator_height) c.deref-in-TagEnum.ensures.value in
    omega (arith, e, p, c.requires, c.height_of_enumerators-in-TagEnum.ensures)

pub height_of_word-returns-in-Enum : goal.height_of_word-returns-in-Enum
height_of_word-returns-in-Enum t c =
    let e = ap most.spec_height c.in-Enum.is ∙ height_Enum c.in-Enum.field-0 c.in-Enum.field-1 c.in-Enum.constants c.in-Enum.field-3 c.in-Enum.field-4 in
    let p = ap (most.highest most.enumerator_height) c.deref.ensures.value in
    omega (arith, e, p, c.requires, c.height_of_enumerators.ensures)

pub height_of_word-returns-in-TagEnum : goal.height_of_word-returns-in-TagEnum
height_of_word-returns-in-TagEnum t c =
    let e = ap most.spec_height c.in-TagEnum.is ∙ height_TagEnum c.in-TagEnum.field-0 c.in-TagEnum.field-1 c.in-TagEnum.field-2 c.in-TagEnum.field-3 c.in-TagEnum.constants c.in-TagEnum.field-5 c.in-TagEnum.field-6 in
    let p = ap (most.highest most.enumerator_height) c.deref-in-TagEnum.ensures.value in
    omega (arith, e, p, c.requires, c.height_of_enumerators-in-TagEnum.ensures)
