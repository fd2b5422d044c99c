use Rattle.std.proofs.Common.{◌≡◌, ◌<◌, ℕ, true, false, Some, slice_get, take}
use Rattle.walk_states.specs.declared.state.Place.{Place}
use Rattle.walk_states.specs.Known.{plan_of}
use Rattle.plan_tests.specs.Passes.{all_at}
use Rattle.block_follow.specs.Made as made
use Rattle.block_follow.proofs.blocks.are_inside.Given as goal

abbrev pub invariant-loop-number : goal.invariant-loop-number
invariant-loop-number l =
    ((k : ℕ) (p : Place) → k < l.number → slice_get l.places k ≡ Some p → 0 < k → (plan_of l.known).cuts p.node ≡ false)
    × (all_at (made.is_inside l.known) 0 (take l.number l.places) ≡ true)
