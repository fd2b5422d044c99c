use Rattle.block_edges.proofs.Covering as law
use Rattle.block_edges.proofs.complements_cover.Goals as goal

pub returns : goal.returns
returns c = law.complements_cover
