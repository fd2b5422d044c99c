use Rattle.bit_gates.proofs.emission.push_sum.Goals as goal

pub returns : goal.returns
returns c = rw (c.negate-no.ensures, c.negate-na.ensures, c.negate-nb.ensures, c.negate-nc.ensures) at c.push_each.ensures
