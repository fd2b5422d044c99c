use Rattle.resolution_log.proofs.Pushes.{New-push}
use Rattle.resolution_log.proofs.laws.new_logs_grow.Goals as goal

pub returns : goal.returns
returns c clauses rs log ch r n h d w = New-push ch r n h d w
