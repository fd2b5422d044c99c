use Rattle.std.proofs.Common.{◌≡◌, take}
use Rattle.std.specs.Prelude.{option_map}
use Rattle.slot_code.specs.Values as c
use Rattle.slot_values.specs.Seen as seen
use Rattle.slot_values.proofs.scene.link_of.Given as goal

-- the newest of those so far
abbrev pub invariant-loop-link : goal.invariant-loop-link
invariant-loop-link l = option_map seen.link_of l.found ≡ c.link_of l.function (seen.links_of (take l.link-index l.links))
