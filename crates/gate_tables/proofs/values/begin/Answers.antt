use Rattle.std.proofs.Common.{sym}
use Rattle.gate_tables.proofs.values.begin.Goals as goal

pub returns : goal.returns
returns c = c.in_ok-bits.ensures.over c.args.terms.now (sym c.cells.ensures.value)
