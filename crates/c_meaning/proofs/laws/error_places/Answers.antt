use Rattle.c_meaning.proofs.Runs.{error_places}
use Rattle.c_meaning.proofs.laws.error_places.Goals as goal

pub returns : goal.returns
returns c = error_places
