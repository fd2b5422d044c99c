use Rattle.slot_laws.proofs.Shaping.{shaped_code}
use Rattle.slot_laws.proofs.code_shaped.Goals as goal

pub returns : goal.returns
returns c = shaped_code
