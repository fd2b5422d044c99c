use Rattle.gate_tables.proofs.cells.rebind_first.Goals as goal

pub returns : goal.returns
returns c = record { over = c.in_ok-rebind.ensures.over c.args.terms.now c.in_ok-lits.ensures.over }
