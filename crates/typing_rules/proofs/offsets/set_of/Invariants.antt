use Rattle.std.proofs.Common.{◌≡◌, ℕ, nat_eq, take}
use Rattle.std.specs.HashSet.{contains}
use Rattle.typing_rules.specs.Summed.{is_again}
use Rattle.typing_rules.proofs.offsets.set_of.Given as goal

-- those so far are in the set
abbrev pub invariant-loop-at : goal.invariant-loop-at
invariant-loop-at l = (k : ℕ) → contains nat_eq l.set k ≡ is_again (take l.at-index l.list) k
