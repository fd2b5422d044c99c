use Rattle.std.proofs.Common.{◌≡◌, ◌≤◌, take, length}
use Rattle.c_tree.specs.View.{items_of}
use Rattle.trace_lines.specs.Pairing.{body_at}
use Rattle.trace_lines.proofs.pairing.body_at.Given as goal

-- the body is one of those that are left
abbrev pub invariant-items : goal.invariant-items
invariant-items l = (body_at (items_of (take l.left l.items)) l.at ≡ body_at (items_of l.items) l.at) × (l.left ≤ length l.items)

abbrev pub decreases-items : goal.decreases-items
decreases-items l = l.left
