use Rattle.slot_turn_laws.proofs.Whole.{turns-as-tree}
use Rattle.slot_turn_laws.proofs.code_turns_as_tree.Goals as goal

pub returns : goal.returns
returns c = turns-as-tree
