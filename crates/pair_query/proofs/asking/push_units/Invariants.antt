use Rattle.std.proofs.Common.{drop}
use Rattle.pair_query.specs.Pairs.{units}
use Rattle.pair_query.proofs.Underway.{Underway}
use Rattle.pair_query.proofs.asking.push_units.Given as goal

abbrev pub invariant-loop-lit : goal.invariant-loop-lit
invariant-loop-lit l = Underway l.fn.clauses (units l.lits) l.clauses (units (drop l.lit-index l.lits))
