use Rattle.std.proofs.Common.{◌≡◌, ◌+◌, ◌-◌, ◌≤◌, drop, length}
use Rattle.std.specs.List.{prefix_len}
use Rattle.trace_lines.specs.Excerpts.{is_of}
use Rattle.trace_lines.proofs.excerpts.front_count.Given as goal

-- the bytes so far are of the class
abbrev pub invariant-bytes : goal.invariant-bytes
invariant-bytes l = (l.count + prefix_len (is_of l.class) (drop l.count l.bytes) ≡ prefix_len (is_of l.class) l.bytes) × (l.count ≤ length l.bytes)

abbrev pub decreases-bytes : goal.decreases-bytes
decreases-bytes l = length l.bytes - l.count
