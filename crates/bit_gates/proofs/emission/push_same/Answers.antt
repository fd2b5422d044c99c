use Rattle.bit_gates.proofs.emission.push_same.Goals as goal

pub returns : goal.returns
returns c = rw (c.negate-no.ensures, c.negate-ne.ensures, c.negate-na.ensures, c.negate-nb.ensures) at c.push_each.ensures
