use Rattle.code_move_laws.proofs.Trimming as law
use Rattle.code_move_laws.proofs.stores_trim.Goals as goal

pub returns : goal.returns
returns c = law.stores-trim
