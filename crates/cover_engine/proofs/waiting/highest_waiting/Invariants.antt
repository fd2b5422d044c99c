use Rattle.std.proofs.Common.{◌≡◌, true}
use Rattle.std.specs.BTreeSet.{btree_set_len}
use Rattle.cover_engine.specs.Openings.{AreWaiting, all_end}
use Rattle.cover_engine.proofs.waiting.highest_waiting.Given as goal

abbrev pub invariant-loop-number : goal.invariant-loop-number
invariant-loop-number l = AreWaiting l.tree.vertices l.tree.terms l.covers l.ends_known.items l.waiting × (all_end l.nodes l.ends_known.items ≡ true)

abbrev pub decreases-loop-number : goal.decreases-loop-number
decreases-loop-number l = btree_set_len l.waiting
