use Rattle.std.proofs.Common.{◌≡◌, take, []}
use Rattle.c_typed.specs.Rules as r
use Rattle.first_broken.specs.Seen.{found_of}
use Rattle.first_broken.specs.Found.{summary}
use Rattle.jump_rules.specs.Seen.{jumps}
use Rattle.jump_rules.proofs.labels.lost.Given as goal

-- the sum of those so far
abbrev pub invariant-loop-goto : goal.invariant-loop-goto
invariant-loop-goto l = found_of l.all ≡ summary (r.lost_gotos (jumps l.named.labels.now) (jumps (take l.goto-index l.gotos)))
