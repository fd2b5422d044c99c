use Rattle.edge_count_laws.proofs.Counting as law
use Rattle.edge_count_laws.proofs.built_is_sparse.Goals as goal

pub returns : goal.returns
returns c = law.built-is-sparse
