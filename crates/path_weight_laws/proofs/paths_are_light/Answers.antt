use Rattle.path_weight_laws.proofs.Lightness as law
use Rattle.path_weight_laws.proofs.paths_are_light.Goals as goal

pub returns : goal.returns
returns c = law.paths_are_light
