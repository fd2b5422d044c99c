use Rattle.inline_back_laws.proofs.Copies as law
use Rattle.inline_back_laws.proofs.inlined_errors_come_back.Goals as goal

pub returns : goal.returns
returns c = law.inlined-errors-come-back
