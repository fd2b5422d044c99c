use Rattle.std.proofs.Common.{◌≡◌, take}
use Rattle.first_broken.specs.Seen.{found_of}
use Rattle.first_broken.specs.Found.{summary}
use Rattle.call_order.specs.Layers as layers
use Rattle.call_order.specs.Seen as seen
use Rattle.call_order.proofs.cycles.lines_found.Given as goal

-- the sum of those so far
abbrev pub invariant-loop-i : goal.invariant-loop-i
invariant-loop-i l = found_of l.all ≡ summary (layers.all_lines (seen.graph_of l.calls) 0 (seen.all_calls (take l.i l.calls)))
