use Rattle.std.proofs.Common.{◌≡◌, ◌+◌, ◌≤◌, take, length}
use Rattle.std.specs.List.{suffix_len}
use Rattle.trace_lines.specs.Excerpts.{is_of}
use Rattle.trace_lines.proofs.excerpts.back_count.Given as goal

-- the bytes behind those that are left are of the class
abbrev pub invariant-bytes : goal.invariant-bytes
invariant-bytes l = (suffix_len (is_of l.class) (take l.left l.bytes) + length l.bytes ≡ suffix_len (is_of l.class) l.bytes + l.left) × (l.left ≤ length l.bytes)

abbrev pub decreases-bytes : goal.decreases-bytes
decreases-bytes l = l.left
