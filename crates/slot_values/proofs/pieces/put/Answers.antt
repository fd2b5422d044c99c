use Rattle.slot_values.proofs.Rows.{set_parts}
use Rattle.slot_values.proofs.pieces.put.Goals as goal

pub returns : goal.returns
returns c = set_parts c.args.code.now.items c.args.at c.args.instruction c.requires
