use Rattle.std.proofs.Common.{rules, arith}
use Rattle.bit_blast.proofs.Steps.{two-cells}
use Rattle.gate_tables.proofs.cells.store_in_two.Goals as goal

pub store_at-requires-clause-there : goal.store_at-requires-clause-there
store_at-requires-clause-there c = two-cells c.args.bits.now.cells 8 (search rules) (omega arith)
