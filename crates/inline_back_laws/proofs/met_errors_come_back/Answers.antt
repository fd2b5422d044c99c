use Rattle.inline_back_laws.proofs.Copies as law
use Rattle.inline_back_laws.proofs.met_errors_come_back.Goals as goal

pub returns : goal.returns
returns c = law.met-errors-come-back
