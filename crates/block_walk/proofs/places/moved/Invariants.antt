use Rattle.std.proofs.Common.{◌≡◌, drop}
use Rattle.block_rule.specs.Deeds.{Code}
use Rattle.block_rule.specs.Rule.{moved}
use Rattle.block_steps.specs.Cursors.{Meets}
use Rattle.walk_states.specs.Known.{plan_of}
use Rattle.walk_states.specs.Walks.{waits_of}
use Rattle.block_walk.specs.Made as made
use Rattle.block_walk.proofs.places.moved.Given as goal

abbrev pub invariant-loop-number : goal.invariant-loop-number
invariant-loop-number l =
    ((code : Code) → Meets l.new l.at (moved l.old.terms (plan_of l.known) (waits_of l.waiting) l.guard (drop l.number l.ops) code)
    → Meets l.new l.fn.cursor (moved l.old.terms (plan_of l.known) (waits_of l.waiting) l.guard (drop l.skip l.ops) code))
    × (made.moved_over l.old.terms l.new (plan_of l.known) (waits_of l.waiting) l.fn.cursor l.guard (drop l.skip l.ops)
    ≡ made.moved_over l.old.terms l.new (plan_of l.known) (waits_of l.waiting) l.at l.guard (drop l.number l.ops))
