use Rattle.elaboration_main_laws.proofs.Mains.{main_found_is}
use Rattle.elaboration_main_laws.proofs.main_found.Goals as goal

pub returns : goal.returns
returns c = main_found_is
