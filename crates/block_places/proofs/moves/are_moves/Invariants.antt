use Rattle.std.proofs.Common.{◌≡◌, drop}
use Rattle.block_rule.specs.Plans.{AreMoves}
use Rattle.walk_states.specs.Known.{plan_of}
use Rattle.block_places.specs.Made as made
use Rattle.block_places.proofs.moves.are_moves.Given as goal

abbrev pub invariant-loop-number : goal.invariant-loop-number
invariant-loop-number l =
    (AreMoves (plan_of l.known) l.cells (drop l.number l.ops) → AreMoves (plan_of l.known) l.cells (drop l.skip l.ops))
    × (made.are_moves l.known l.cells l.ops l.skip ≡ made.are_moves l.known l.cells l.ops l.number)
