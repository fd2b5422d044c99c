use Rattle.inline_back_laws.proofs.Copies as law
use Rattle.inline_back_laws.proofs.inlined_runs_come_back.Goals as goal

pub returns : goal.returns
returns c = law.inlined-runs-come-back
