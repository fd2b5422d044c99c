use Rattle.std.proofs.Common.{◌≡◌, drop}
use Rattle.block_rule.specs.Rule.{all_placed}
use Rattle.block_steps.specs.Cursors.{Meets}
use Rattle.walk_states.specs.Known.{plan_of}
use Rattle.walk_states.specs.Walks.{places_of, state_of}
use Rattle.block_walk.specs.Made as made
use Rattle.walk_states.specs.Made.{walk_of}
use Rattle.block_walk.proofs.places.all_placed.Given as goal

abbrev pub invariant-loop-number : goal.invariant-loop-number
invariant-loop-number l =
    (Meets l.new l.at.cursor (all_placed l.old.terms (plan_of l.known) (places_of l.old (drop l.number l.places)) (state_of l.at))
    → Meets l.new l.fn.walk.cursor (all_placed l.old.terms (plan_of l.known) (places_of l.old l.places) (state_of l.fn.walk)))
    × (made.all_placed l.old l.new (plan_of l.known) (walk_of l.fn.walk) l.places
    ≡ made.all_placed l.old l.new (plan_of l.known) (walk_of l.at) (drop l.number l.places))
