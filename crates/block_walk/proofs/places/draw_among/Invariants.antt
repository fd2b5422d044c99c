use Rattle.std.proofs.Common.{◌≡◌, drop}
use Rattle.block_rule.specs.Rule.{some_draw}
use Rattle.block_walk.proofs.places.draw_among.Given as goal

abbrev pub invariant-loop-number : goal.invariant-loop-number
invariant-loop-number l = some_draw (drop l.skip l.ops) ≡ some_draw (drop l.number l.ops)
