use Rattle.std.proofs.Common.{◌≡◌, ◌++◌, ◌-◌, drop}
use Rattle.cfg_build.specs.Follows.{plan_of}
use Rattle.cfg_build.specs.Graphs.{AreLoops}
use Rattle.cfg_build.specs.Looped.{loops_from, loops_at}
use Rattle.cfg_build.proofs.building.loops_at.Given as goal

-- the loops so far, and behind them those of what is left
abbrev pub invariant-loop-place : goal.invariant-loop-place
invariant-loop-place l =
    AreLoops (plan_of l.places) l.found.items
    × (l.found.items ++ loops_from (plan_of l.places) l.place (l.places.range.end - l.place) (drop l.number l.loops) ≡ loops_at (plan_of l.places) l.loops)
