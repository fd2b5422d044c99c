use Rattle.interpolants.proofs.Ending.{all-covered}
use Rattle.interpolants.proofs.occurrences.numbered.Goals as goal

pub returns-clause-covers : goal.returns-clause-covers
returns-clause-covers c = λ x h. all-covered _ c.args.clauses.now x c.in_ok-vars.ensures.covers h
