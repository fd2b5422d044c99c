use Rattle.std.proofs.Common.{◌≡◌}
use Rattle.c_terms.specs.Shown.{Grows}
use Rattle.code_moves.specs.Setting.{setting_of, site_of, Stands}
use Rattle.cfg_build.specs.Steps.{Built}
use Rattle.cfg_build.specs.Follows.{plan_of, FirstFollow}
use Rattle.cfg_build.specs.Made as made
use Rattle.cfg_build.specs.Made.{drawn_of}
use Rattle.cfg_build.proofs.placing.add_places.Given as goal

-- the places so far
abbrev pub invariant-loop-number : goal.invariant-loop-number
invariant-loop-number l =
    (Stands (setting_of l.ground) l.initial.words → Grows l.initial.words l.words × Built l.initial.draft l.draft (FirstFollow (plan_of l.places) (setting_of l.ground) l.words.terms l.number))
    × (drawn_of l.words l.draft ≡ made.add_first (plan_of l.places) l.places.whole.owners.now (site_of (setting_of l.ground)) (drawn_of l.initial.words l.initial.draft) l.number)
