use Rattle.path_weight_laws.proofs.Lightness as law
use Rattle.path_weight_laws.proofs.refused_paths_are_heavy.Goals as goal

pub returns : goal.returns
returns c = law.refused_paths_are_heavy
