use Rattle.std.specs.Prelude.{length, take, slice_get}
use Rattle.slot_values.specs.Linked.{links_of}
use Rattle.cfg_build.specs.Ranges.{AreRanges, entry_or, slot_or}
use Rattle.cfg_build.proofs.ranging.are_ranges.Given as goal

-- the ranges of the links so far
abbrev pub invariant-loop-number : goal.invariant-loop-number
invariant-loop-number l =
    AreRanges (entry_or (length l.code.instructions.items) (slice_get l.code.links.items l.number)) (slot_or l.slots (slice_get l.code.links.items l.number))
    (links_of (take l.number l.code.links.items)) l.ranges
