use Rattle.resolution_log.proofs.Pushes.{New-valid}
use Rattle.resolution_log.proofs.laws.new_logs_are_valid.Goals as goal

pub returns : goal.returns
returns c clauses rs log n = New-valid n
