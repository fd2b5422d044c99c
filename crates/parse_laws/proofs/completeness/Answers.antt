use Rattle.parse_laws.proofs.CompleteFile.{complete}
use Rattle.parse_laws.proofs.completeness.Goals as goal

pub returns : goal.returns
returns c = complete
