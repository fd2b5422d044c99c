use Rattle.std.specs.Prelude.{◌≡◌, length}
use Rattle.cfg_build.specs.Ranges as of
use Rattle.cfg_build.proofs.ranging.no_ranges.Given as goal

-- the functions so far
abbrev pub invariant-loop-number : goal.invariant-loop-number
invariant-loop-number l = (length l.ranges.items ≡ l.number) × (l.ranges.items ≡ of.no_ranges l.number)
