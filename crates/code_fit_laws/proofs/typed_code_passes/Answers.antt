use Rattle.code_fit_laws.proofs.Whole as law
use Rattle.code_fit_laws.proofs.typed_code_passes.Goals as goal

pub returns : goal.returns
returns c = law.typed_code_passes
