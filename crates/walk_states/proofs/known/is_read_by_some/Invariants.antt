use Rattle.std.proofs.Common.{◌≡◌, drop}
use Rattle.block_rule.specs.Rule.{some_live}
use Rattle.walk_states.specs.Known.{plan_of}
use Rattle.walk_states.specs.Walks.{waits_of}
use Rattle.walk_states.proofs.known.is_read_by_some.Given as goal

abbrev pub invariant-loop-place : goal.invariant-loop-place
invariant-loop-place l =
    some_live (plan_of l.known) (waits_of l.waiting) l.cell ≡ some_live (plan_of l.known) (waits_of (drop l.place-index l.waiting)) l.cell
