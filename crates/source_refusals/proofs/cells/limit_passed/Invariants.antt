use Rattle.std.proofs.Common.{◌≡◌, ◌≤◌, drop, map}
use Rattle.type_scopes.specs.Seen.{object_of}
use Rattle.source_refusals.specs.Cells as c
use Rattle.source_refusals.proofs.cells.limit_passed.Given as goal

-- those so far don't pass it, and what is left does where all do
abbrev pub invariant-loop-object : goal.invariant-loop-object
invariant-loop-object l =
    (l.cells ≤ 65536)
    × (c.passed l.cells (map object_of (drop l.object-index l.env.objects.items)) ≡ c.passed 0 (map object_of l.env.objects.items))
