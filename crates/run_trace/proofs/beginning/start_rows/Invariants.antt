use Rattle.std.proofs.Common.{◌≡◌, ◌-◌, take, map, length}
use Rattle.c_typed.specs.View.{object_of}
use Rattle.c_typed.specs.Run as typed
use Rattle.run_trace.proofs.beginning.start_rows.Given as goal

-- the objects before have their rows
abbrev pub invariant-objects : goal.invariant-objects
invariant-objects l = l.rows.items ≡ typed.start_store (map object_of (take l.index l.objects))

abbrev pub decreases-objects : goal.decreases-objects
decreases-objects l = length l.objects - l.index
