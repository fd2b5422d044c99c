use Rattle.std.specs.Prelude.{◌≡◌, List, length, take, slice_get}
use Rattle.c_typed.specs.Parts.{tree_of}
use Rattle.slot_values.specs.Linked.{links_of}
use Rattle.cfg_build.specs.declared.placing.Range.{Range}
use Rattle.cfg_build.specs.Ranges.{AreRanges, ranges_to, entry_or, slot_or, no_ranges}
use Rattle.cfg_build.proofs.Linking.{EachLink, Alike}
use Rattle.cfg_build.proofs.ranging.ranges_of.Given as goal

-- the ranges of the links so far are those that stand, and are laid in their order
abbrev pub invariant-loop-number : goal.invariant-loop-number
invariant-loop-number l =
    (length l.ranges.items ≡ length (tree_of l.typed).functions)
    × ((all : List Range) → length all ≡ length (tree_of l.typed).functions → AreRanges (length l.code.instructions.items) l.slots (links_of l.code.links.items) all
    → EachLink (Alike l.ranges.items all) (links_of (take l.number l.code.links.items)))
    × (l.ranges.items ≡ ranges_to (entry_or (length l.code.instructions.items) (slice_get l.code.links.items l.number)) (slot_or l.slots (slice_get l.code.links.items l.number))
    (links_of (take l.number l.code.links.items)) (no_ranges (length (tree_of l.typed).functions)))
