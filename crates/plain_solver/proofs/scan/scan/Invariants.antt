use Rattle.std.proofs.Common.{◌≡◌, drop, None}
use Rattle.plain_solver.specs.Scan.{scan_of}
use Rattle.plain_solver.proofs.scan.scan.Given as goal

abbrev pub invariant-loop-i : goal.invariant-loop-i
invariant-loop-i l = scan_of l.trail.entries.items l.known 0 None ≡ scan_of l.trail.entries.items (drop l.i l.known) l.i l.open
