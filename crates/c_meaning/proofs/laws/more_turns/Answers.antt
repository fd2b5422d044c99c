use Rattle.c_meaning.proofs.Runs.{more_turns}
use Rattle.c_meaning.proofs.laws.more_turns.Goals as goal

pub returns : goal.returns
returns c = more_turns
