use Rattle.std.proofs.Common.{arith, ◌≡◌, ◌∙◌, sym}
use Rattle.parse_stack.proofs.StackLemmas.{no_attributes_of_empty}
use Rattle.parse_stack.proofs.rows.has_no_attributes.Goals as goal

pub returns : goal.returns
returns c = c.is_empty.ensures ∙ sym (no_attributes_of_empty c.args.attributes.now)
