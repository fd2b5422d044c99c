use Rattle.c_meaning.proofs.Drawn.{drawn_are_there}
use Rattle.c_meaning.proofs.laws.drawn_are_there.Goals as goal

pub returns : goal.returns
returns c = drawn_are_there
