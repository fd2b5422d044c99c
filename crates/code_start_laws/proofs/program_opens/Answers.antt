use Rattle.code_start_laws.proofs.Whole as law
use Rattle.code_start_laws.proofs.program_opens.Goals as goal

pub returns : goal.returns
returns c = law.program-opens
