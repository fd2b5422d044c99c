use Rattle.parse_laws.proofs.CompleteFile.{unique}
use Rattle.parse_laws.proofs.uniqueness.Goals as goal

pub returns : goal.returns
returns c = unique
