-- Trees, seen by their parts.
pub use Rattle.c_tree.proofs.Views.{parts_push, words_push, enumerators_push, expr_Call, expr_Comma, expr_Cast, expr_SizeofType, word_Enum, word_TagEnum}
