use Rattle.std.proofs.Common.{◌≡◌, take}
use Rattle.first_broken.specs.Seen.{found_of}
use Rattle.first_broken.specs.Found.{summary}
use Rattle.call_order.specs.Layers as layers
use Rattle.call_order.specs.Seen as seen
use Rattle.call_order.proofs.cycles.cycle_lines.Given as goal

-- the sum of those so far
abbrev pub invariant-loop-call : goal.invariant-loop-call
invariant-loop-call l = found_of l.all ≡ summary (layers.lines_in l.marks (seen.calls (take l.call-index l.calls)))
