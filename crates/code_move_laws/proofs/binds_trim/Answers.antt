use Rattle.code_move_laws.proofs.Trimming as law
use Rattle.code_move_laws.proofs.binds_trim.Goals as goal

pub returns : goal.returns
returns c = law.binds-trim
