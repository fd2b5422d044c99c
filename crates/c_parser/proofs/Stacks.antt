-- The innermost frame is the last of the list.
pub use Rattle.parse_stack.proofs.StackLemmas.{inner_push, outer_push}
