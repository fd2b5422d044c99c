-- Lists in the tree, seen by their elements.
pub use Rattle.c_tree.proofs.Views.{parts_push, words_push, enumerators_push, params_push, attributes_push, statements_push, declarators_push, raw_push, expr_Call, expr_Comma, expr_Cast, expr_SizeofType, word_Enum, word_TagEnum, statement_Block}
