-- The typed tree of a source that breaks no rule of names, types and calls, and whose tokens rise.
use Rattle.std.proofs.Common.{◌≡◌, List, [], ◌∷◌, refl, ◌∙◌}
use Rattle.c_run.specs.Breaking.{Broken}
use Rattle.c_meaning.specs.Good.{or_control}
use Rattle.c_types.specs.Laws.{SameRun}
use Rattle.control_laws.specs.Laws.{SameControl}
use Rattle.elaboration_fit_laws.specs.Whole.{SourcesFit}
use Rattle.elaboration_offset_laws.specs.Laws.{SourcesHold, SourcesRun, SourcesBreak, GoodSources}

pub sources_run_are : SourcesHold → SourcesFit → SameRun → SourcesRun
sources_run_are holds fits same tokens items model spelled rises h turns inputs = same items model (fits items model (holds tokens items model spelled rises h) h).0 turns inputs

pub sources_break_are : SourcesHold → SourcesFit → SameControl → SourcesBreak
sources_break_are holds fits same tokens items model spelled rises h = same items model (fits items model (holds tokens items model spelled rises h) h).1

or_left : (xs ys : List Broken) → or_control xs ys ≡ [] → xs ≡ []
or_left [] ys h = refl
or_left (x ∷ xs) ys h = cc

or_right : (xs ys : List Broken) → or_control xs ys ≡ [] → ys ≡ []
or_right [] ys h = h
or_right (x ∷ xs) ys h = cc

pub good_sources_are : SourcesRun → SourcesBreak → GoodSources
good_sources_are runs breaks tokens items model spelled rises h =
    let right = or_left _ _ h in
    (breaks tokens items model spelled rises right ∙ or_right _ _ h, runs tokens items model spelled rises right)
