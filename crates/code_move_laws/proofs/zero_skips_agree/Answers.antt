use Rattle.code_move_laws.proofs.Skipping as law
use Rattle.code_move_laws.proofs.zero_skips_agree.Goals as goal

pub returns : goal.returns
returns c = law.zero-skips
