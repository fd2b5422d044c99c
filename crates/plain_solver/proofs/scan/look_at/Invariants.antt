use Rattle.std.proofs.Common.{◌≡◌, drop, None}
use Rattle.plain_solver.specs.Scan.{look_of}
use Rattle.plain_solver.proofs.scan.look_at.Given as goal

abbrev pub invariant-loop-m : goal.invariant-loop-m
invariant-loop-m l = look_of l.trail.entries.items l.c None ≡ look_of l.trail.entries.items (drop l.m-index l.c) l.open
