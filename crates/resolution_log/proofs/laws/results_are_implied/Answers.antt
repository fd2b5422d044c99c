use Rattle.resolution_log.proofs.Results.{holds_results}
use Rattle.resolution_log.proofs.laws.results_are_implied.Goals as goal

pub returns : goal.returns
returns c clauses log rs v h all = holds_results v clauses log rs all h
