use Rattle.std.specs.Prelude.{◌≡◌, length, take, slice_get}
use Rattle.slot_values.specs.Linked.{links_of}
use Rattle.cfg_build.specs.Ranges.{entry_or}
use Rattle.cfg_build.specs.Numbers.{owners_to}
use Rattle.cfg_build.proofs.numbering.owners_of.Given as goal

-- the owners of the places of the links so far
abbrev pub invariant-loop-number : goal.invariant-loop-number
invariant-loop-number l =
    l.owners.items ≡ owners_to (entry_or (length l.code.instructions.items) (slice_get l.code.links.items l.number)) (links_of (take l.number l.code.links.items))
