use Rattle.name_bindings.proofs.Parting.{part_by_part_is}
use Rattle.name_bindings.proofs.part_by_part.Goals as goal

pub returns : goal.returns
returns c = part_by_part_is
