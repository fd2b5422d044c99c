use Rattle.code_start_laws.proofs.Errors as law
use Rattle.code_start_laws.proofs.program_errors_follow.Goals as goal

pub returns : goal.returns
returns c = law.program-errors-follow
