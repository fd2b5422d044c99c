use Rattle.std.proofs.Common.{◌≡◌, take}
use Rattle.c_typed.specs.Rules as r
use Rattle.first_broken.specs.Seen.{found_of}
use Rattle.first_broken.specs.Found.{summary}
use Rattle.step_values.specs.Seen.{values}
use Rattle.effect_rules.proofs.marks.effects_found.Given as goal

-- the sum of those so far
abbrev pub invariant-loop-value : goal.invariant-loop-value
invariant-loop-value l = found_of l.found ≡ summary (r.unsequenced_of (values (take l.value-index l.all)))
