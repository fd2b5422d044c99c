use Rattle.c_typed.proofs.Induction.{drawn_inputs}
use Rattle.c_typed.proofs.laws.drawn_inputs.Goals as goal

pub returns : goal.returns
returns c = drawn_inputs
