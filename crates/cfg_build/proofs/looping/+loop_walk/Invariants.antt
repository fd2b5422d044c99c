use Rattle.std.proofs.Common.{◌≡◌, ◌++◌, take}
use Rattle.c_typed.specs.View.{steps_of}
use Rattle.cfg_build.specs.Looped as of
use Rattle.cfg_build.proofs.looping.+loop_walk.Given as goal

-- those so far stand behind those that were there
abbrev pub invariant-loops_in-loop-step : goal.invariant-loops_in-loop-step
invariant-loops_in-loop-step l = l.found.items ≡ l.initial.found.items ++ of.loops_in (steps_of (take l.step-index l.steps))
