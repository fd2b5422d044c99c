use Rattle.drawn_value_laws.proofs.Meeting as law
use Rattle.drawn_value_laws.proofs.errors_meet.Goals as goal

pub returns : goal.returns
returns c = law.errors_meet c.drawn_inputs.ensures
