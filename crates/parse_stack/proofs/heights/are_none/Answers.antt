use Rattle.std.proofs.Common.{arith, ◌≡◌, ◌∙◌, sym}
use Rattle.parse_stack.proofs.StackLemmas.{none_of_empty}
use Rattle.parse_stack.proofs.heights.are_none.Goals as goal

pub returns : goal.returns
returns c = c.is_empty.ensures ∙ sym (none_of_empty c.args.declarators.now)
