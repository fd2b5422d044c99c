use Rattle.std.proofs.Common.{◌≡◌, ◌≤◌, length, take}
use Rattle.jump_rules.proofs.jumps.shared.Given as goal

-- the objects so far are the same
abbrev pub invariant-loop-i : goal.invariant-loop-i
invariant-loop-i l = record {
  fits : l.i ≤ length l.start;
  same : take l.i l.start ≡ take l.i l.goal;
}
