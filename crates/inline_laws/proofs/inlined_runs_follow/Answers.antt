use Rattle.inline_laws.proofs.Copies as law
use Rattle.inline_laws.proofs.inlined_runs_follow.Goals as goal

pub returns : goal.returns
returns c = law.inlined_runs_follow
