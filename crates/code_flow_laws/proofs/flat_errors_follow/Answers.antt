use Rattle.code_flow_laws.proofs.Whole as law
use Rattle.code_flow_laws.proofs.flat_errors_follow.Goals as goal

pub returns : goal.returns
returns c = law.errors-follow
