use Rattle.std.proofs.Common.{◌≡◌, take, map}
use Rattle.prop.specs.Logic.{negated}
use Rattle.bit_gates.proofs.dividers.negate_all.Given as goal

abbrev pub invariant-loop-x : goal.invariant-loop-x
invariant-loop-x l = l.outs.items ≡ map negated (take l.x-index l.xs)
