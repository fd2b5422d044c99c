use Rattle.std.proofs.Common.{◌≡◌, true}
use Rattle.resolution_log.specs.Laws.{Within}
use Rattle.resolution_log.proofs.Propagates.{Derived-inside}
use Rattle.resolution_log.proofs.laws.propagation_stays.Goals as goal

pub returns : goal.returns
returns c clauses given s closed inside l d = Derived-inside clauses (Within given) (Within s) closed inside l d
