use Rattle.code_flow_laws.proofs.Typed as law
use Rattle.code_flow_laws.proofs.typed_errors_follow.Goals as goal

pub returns : goal.returns
returns c = law.typed-errors-follow
