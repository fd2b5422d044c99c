use Rattle.c_meaning.proofs.Runs.{drawn_inputs}
use Rattle.c_meaning.proofs.laws.drawn_inputs.Goals as goal

pub returns : goal.returns
returns c = drawn_inputs
