use Rattle.parse_laws.proofs.CompleteFile.{refused}
use Rattle.parse_laws.proofs.refusals.Goals as goal

pub returns : goal.returns
returns c = refused
