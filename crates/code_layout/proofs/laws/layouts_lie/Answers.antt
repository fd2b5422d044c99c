use Rattle.code_layout.proofs.Lying as law
use Rattle.code_layout.proofs.laws.layouts_lie.Goals as goal

pub returns : goal.returns
returns c = law.layouts_lie
