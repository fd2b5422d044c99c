use Rattle.unwinding_laws.proofs.Journals.{legal_well_labelled}
use Rattle.unwinding_laws.proofs.legal_is_well_labelled.Goals as goal

pub returns : goal.returns
returns c = legal_well_labelled
