use Rattle.code_move_laws.proofs.Suiting as law
use Rattle.code_move_laws.proofs.graph_way_suits.Goals as goal

pub returns : goal.returns
returns c = law.graph-way-suits
