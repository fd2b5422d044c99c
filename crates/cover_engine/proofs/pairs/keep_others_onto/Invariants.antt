use Rattle.std.proofs.Common.{◌≡◌, ◌-◌, ◌≤◌, ◌++◌, drop, take, length}
use Rattle.cover_engine.specs.Units.{pairs_but_onto}
use Rattle.cover_engine.proofs.pairs.keep_others_onto.Given as goal

abbrev pub invariant-loop-at : goal.invariant-loop-at
invariant-loop-at l =
    (l.kept ≤ l.at) × (l.at ≤ length l.pairs.items)
    × (take l.kept l.pairs.items ++ pairs_but_onto l.numbers (drop l.at l.pairs.items) ≡ pairs_but_onto l.numbers l.initial.pairs.items)

abbrev pub decreases-loop-at : goal.decreases-loop-at
decreases-loop-at l = length l.pairs.items - l.at
