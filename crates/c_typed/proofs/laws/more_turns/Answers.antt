use Rattle.c_typed.proofs.Induction.{more_turns}
use Rattle.c_typed.proofs.laws.more_turns.Goals as goal

pub returns : goal.returns
returns c = more_turns
