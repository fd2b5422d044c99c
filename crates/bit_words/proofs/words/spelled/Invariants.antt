use Rattle.std.proofs.Common.{◌≡◌, ◌≤◌, ◌<◌, ◌-◌, ◌^◌, length, drop}
use Rattle.std.specs.Prelude.{Some}
use Rattle.bit_words.specs.Words.{spelled_of}
use Rattle.bit_words.proofs.words.spelled.Given as goal

abbrev pub invariant-loop-left : goal.invariant-loop-left
invariant-loop-left l =
    (l.left ≤ length l.lits) × (spelled_of l.one (drop l.left l.lits) ≡ Some l.value)
    × (l.value < 2 ^ (length l.lits - l.left))

abbrev pub decreases-loop-left : goal.decreases-loop-left
decreases-loop-left l = l.left
