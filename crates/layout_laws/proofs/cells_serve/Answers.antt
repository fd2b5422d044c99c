use Rattle.layout_laws.proofs.Serving as law
use Rattle.layout_laws.proofs.cells_serve.Goals as goal

pub returns : goal.returns
returns c = law.cells_serve
