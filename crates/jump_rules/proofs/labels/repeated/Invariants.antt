use Rattle.std.proofs.Common.{◌≡◌, take, []}
use Rattle.c_typed.specs.Rules as r
use Rattle.first_broken.specs.Seen.{found_of}
use Rattle.first_broken.specs.Found.{summary}
use Rattle.jump_rules.specs.Seen.{jumps}
use Rattle.jump_rules.proofs.labels.repeated.Given as goal

-- the sum of those so far
abbrev pub invariant-loop-i : goal.invariant-loop-i
invariant-loop-i l = found_of l.all ≡ summary (r.repeated_labels [] (jumps (take l.i l.named.labels.now)))
