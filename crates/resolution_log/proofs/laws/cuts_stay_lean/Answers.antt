use Rattle.resolution_log.proofs.Cones.{cut_lean}
use Rattle.resolution_log.proofs.laws.cuts_stay_lean.Goals as goal

pub returns : goal.returns
returns c need clauses rs front kept last last2 given new h d k a = cut_lean need clauses rs front kept last last2 given new h d k a
