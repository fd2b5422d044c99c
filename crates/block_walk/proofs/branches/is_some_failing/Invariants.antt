use Rattle.std.proofs.Common.{◌≡◌, drop}
use Rattle.truth_terms.specs.Truths.{IsBit}
use Rattle.block_rule.specs.Rule.{some_bad}
use Rattle.walk_states.specs.Walks.{bads_of}
use Rattle.block_walk.specs.Made as made
use Rattle.block_walk.proofs.branches.is_some_failing.Given as goal

abbrev pub invariant-loop-number : goal.invariant-loop-number
invariant-loop-number l =
    (IsBit l.terms l.at (some_bad (bads_of (drop l.number l.bads))) → IsBit l.terms l.fn.term (some_bad (bads_of l.bads)))
    × (made.is_some_failing l.terms l.fn.term (bads_of l.bads) ≡ made.is_some_failing l.terms l.at (bads_of (drop l.number l.bads)))
