use Rattle.resolution_log.specs.Laws.{Within}
use Rattle.resolution_log.proofs.Propagates.{is_new}
use Rattle.resolution_log.proofs.laws.new_by_closed_set.Goals as goal

pub returns : goal.returns
returns c clauses s r t closed quiet in_it false_in no_t some = is_new clauses (Within s) closed quiet r t in_it false_in no_t some
