use Rattle.source_graphs.proofs.Standing.{limits-exact, limits_are_one}
use Rattle.source_graphs.proofs.limits_are_exact.Goals as goal

pub returns : goal.returns
returns c = record { exact = limits-exact; one = limits_are_one }
