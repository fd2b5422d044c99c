use Rattle.std.proofs.Common.{◌≡◌, drop}
use Rattle.block_rule.specs.Rule.{exits}
use Rattle.block_steps.specs.Cursors.{Meets}
use Rattle.walk_states.specs.Known.{plan_of}
use Rattle.walk_states.specs.Walks.{waits_of}
use Rattle.block_walk.specs.Made as made
use Rattle.block_walk.proofs.branches.leave.Given as goal

abbrev pub invariant-loop-number : goal.invariant-loop-number
invariant-loop-number l =
    (Meets l.new l.at (exits (plan_of l.known) l.lost (waits_of (drop l.number l.waiting)))
    → Meets l.new l.fn.cursor (exits (plan_of l.known) l.lost (waits_of l.waiting)))
    × (made.leave l.old.terms l.new (plan_of l.known) l.lost (waits_of l.waiting) l.fn.cursor
    ≡ made.leave l.old.terms l.new (plan_of l.known) l.lost (waits_of (drop l.number l.waiting)) l.at)
