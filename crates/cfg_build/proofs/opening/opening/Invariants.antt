use Rattle.std.proofs.Common.{◌≡◌}
use Rattle.code_moves.specs.Setting.{setting_of, Stands}
use Rattle.code_moves.specs.Deeds.{Does}
use Rattle.cfg_build.specs.Graphs.{opens}
use Rattle.cfg_build.specs.Openings as made
use Rattle.cfg_build.proofs.opening.opening.Given as goal

-- the objects so far
abbrev pub invariant-loop-number : goal.invariant-loop-number
invariant-loop-number l =
    (Stands (setting_of l.ground) l.initial.words → Does l.initial.words l.words l.ops.items (opens (setting_of l.ground) l.number))
    × ((l.words, l.ops.items) ≡ made.open_objects (setting_of l.ground) l.initial.words l.number)
