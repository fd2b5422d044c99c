use Rattle.std.proofs.Common.{◌≡◌, map, take}
use Rattle.c_typed.specs.View.{function_of}
use Rattle.c_rules.specs.Gathered as g
use Rattle.c_rules.specs.Seen.{gathering_of}
use Rattle.c_rules.proofs.checks.gather.Given as goal

-- those so far
abbrev pub invariant-loop-i : goal.invariant-loop-i
invariant-loop-i l = gathering_of l.gathered ≡ g.gathering (map function_of (take l.i l.functions))
