use Rattle.std.proofs.Common.{◌≡◌, ℕ, suc, ◌-◌, None, length}
use Rattle.std.specs.Prelude.{slice_index_or}
use Rattle.slot_values.proofs.linking.reach.Given as goal

-- each number has the link that it had
abbrev pub invariant-loop-newest : goal.invariant-loop-newest
invariant-loop-newest l = (f : ℕ) → slice_index_or l.newest.items f None ≡ slice_index_or l.initial.newest.items f None

abbrev pub decreases-loop-newest : goal.decreases-loop-newest
decreases-loop-newest l = suc l.number - length l.newest.items
