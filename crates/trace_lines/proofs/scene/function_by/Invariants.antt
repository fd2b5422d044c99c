use Rattle.std.proofs.Common.{◌≡◌, ◌≤◌, take, length}
use Rattle.slot_values.specs.Seen.{links_of}
use Rattle.trace_lines.specs.Scenes.{function_by}
use Rattle.trace_lines.proofs.scene.function_by.Given as goal

-- the function is one of those that are left
abbrev pub invariant-links : goal.invariant-links
invariant-links l = (function_by (links_of (take l.left l.links)) l.slot ≡ function_by (links_of l.links) l.slot) × (l.left ≤ length l.links)

abbrev pub decreases-links : goal.decreases-links
decreases-links l = l.left
