-- Trees, seen by their parts.
pub use Rattle.c_tree.proofs.Views.{parts_push, params_push, declarators_push, statements_push, statement_Block}
