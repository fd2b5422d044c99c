use Rattle.good_run_laws.proofs.Calls.{labels_found_is}
use Rattle.good_run_laws.proofs.labels_found.Goals as goal

pub returns : goal.returns
returns c = labels_found_is c.bodies_left.ensures
