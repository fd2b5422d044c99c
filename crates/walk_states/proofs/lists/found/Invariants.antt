use Rattle.std.proofs.Common.{◌≡◌, drop}
use Rattle.block_rule.specs.Rule.{found}
use Rattle.walk_states.specs.Walks.{waits_of}
use Rattle.walk_states.proofs.lists.found.Given as goal

abbrev pub invariant-loop-place : goal.invariant-loop-place
invariant-loop-place l = found (waits_of l.waiting) l.node ≡ found (waits_of (drop l.place-index l.waiting)) l.node
