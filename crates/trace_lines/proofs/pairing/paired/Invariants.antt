use Rattle.std.proofs.Common.{◌≡◌, ◌-◌, take, length, map}
use Rattle.c_tree.specs.Denotes.{tree_of}
use Rattle.c_typed.specs.View.{function_of}
use Rattle.slot_values.specs.Seen.{links_of}
use Rattle.trace_lines.specs.Pairing.{sites_up_to, entry_at}
use Rattle.trace_lines.proofs.pairing.paired.Given as goal

-- the functions before have their sites
abbrev pub invariant-links : goal.invariant-links
invariant-links l =
    l.sites.items ≡ sites_up_to (tree_of l.unit) (map function_of l.functions) l.code.instructions.items (links_of (take l.number l.code.links.items)) (entry_at l.code.links.items l.number (length l.code.instructions.items))

abbrev pub decreases-links : goal.decreases-links
decreases-links l = length l.code.links.items - l.number
