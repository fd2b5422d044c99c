use Rattle.elaboration_laws.proofs.Whole.{places_kept_are}
use Rattle.elaboration_laws.proofs.places_kept.Goals as goal

pub returns : goal.returns
returns c = places_kept_are c.calls_kept.ensures
