use Rattle.std.proofs.Common.{◌≡◌, take, map}
use Rattle.prop.specs.Logic.{negated}
use Rattle.pair_query.proofs.asking.complements.Given as goal

abbrev pub invariant-loop-lit : goal.invariant-loop-lit
invariant-loop-lit l = l.fails.items ≡ map negated (take l.lit-index l.lits)
