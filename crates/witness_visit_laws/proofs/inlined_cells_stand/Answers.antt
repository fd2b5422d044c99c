use Rattle.witness_visit_laws.proofs.Laying as law
use Rattle.witness_visit_laws.proofs.inlined_cells_stand.Goals as goal

pub returns : goal.returns
returns c = law.inlined-cells-stand
