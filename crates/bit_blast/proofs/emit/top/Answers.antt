use Rattle.std.proofs.Common.{false, sym}
use Rattle.bit_gates.proofs.Puts.{top_of-last}
use Rattle.bit_blast.proofs.emit.top.Goals as goal

pub returns : goal.returns
returns c = sym (top_of-last c.args.lits.now (record { var = 0; positive = false }) c.requires)
