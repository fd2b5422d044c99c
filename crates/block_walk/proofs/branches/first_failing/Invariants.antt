use Rattle.std.proofs.Common.{◌≡◌, drop}
use Rattle.block_steps.specs.Cursors.{Meets}
use Rattle.walk_states.specs.Walks.{bads_of, first_of}
use Rattle.block_walk.specs.Made as made
use Rattle.block_walk.proofs.branches.first_failing.Given as goal

abbrev pub invariant-loop-number : goal.invariant-loop-number
invariant-loop-number l =
    (Meets l.new l.at (first_of (bads_of (drop l.number l.bads))) → Meets l.new l.fn.cursor (first_of (bads_of l.bads)))
    × (made.first_failing l.old.terms l.new (bads_of l.bads) l.fn.cursor ≡ made.first_failing l.old.terms l.new (bads_of (drop l.number l.bads)) l.at)
