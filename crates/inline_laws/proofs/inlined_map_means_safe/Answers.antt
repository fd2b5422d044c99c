use Rattle.inline_laws.proofs.Safe as law
use Rattle.inline_laws.proofs.inlined_map_means_safe.Goals as goal

pub returns : goal.returns
returns c = law.inlined_map_means_safe
