use Rattle.std.proofs.Common.{◌≡◌, ◌-◌, ◌≤◌, drop, length}
use Rattle.trace_lines.specs.Pairing.{fitted}
use Rattle.trace_lines.proofs.Sites.{got_and}
use Rattle.trace_lines.proofs.pairing.fitted.Given as goal

-- what is left fits behind what was got
abbrev pub invariant-code : goal.invariant-code
invariant-code l = (got_and l.got.items (fitted (drop l.place l.code) (drop l.used l.found)) ≡ fitted l.code l.found) × (l.used ≤ length l.found)

abbrev pub decreases-code : goal.decreases-code
decreases-code l = length l.code - l.place
