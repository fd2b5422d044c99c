use Rattle.cover_engine.specs.Units.{Legal}
use Rattle.unwinding_tables.proofs.units.go_on.Given as goal

abbrev pub invariant-loop-part : goal.invariant-loop-part
invariant-loop-part l = Legal l.fn.graph l.unwinding
