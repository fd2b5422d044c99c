use Rattle.std.proofs.Common.{◌≡◌, ◌≤◌, length, drop}
use Rattle.path_formula.specs.Needs.{kept_of, needed_by_all}
use Rattle.path_formula.proofs.needs.back_over_all.Given as goal

abbrev pub invariant-loop-left : goal.invariant-loop-left
invariant-loop-left l =
    (l.left ≤ length l.ops) × (length l.kept.items ≡ length l.ops)
    × (drop l.left l.kept.items ≡ kept_of l.terms l.initial.needed.keys (drop l.left l.ops))
    × (l.needed.keys ≡ needed_by_all l.terms l.initial.needed.keys (drop l.left l.ops))

abbrev pub decreases-loop-left : goal.decreases-loop-left
decreases-loop-left l = l.left
