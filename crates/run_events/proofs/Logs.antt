-- Events that are noted one after the other.
use Rattle.std.proofs.Common.{◌≡◌, ℕ, suc, ◌+◌, ◌++◌, ◌<◌, List, [], ◌∷◌, refl, sym, ap, ◌∙◌}
use Rattle.event_log.specs.declared.event.Event.{Event}
use Rattle.event_log.specs.Noted.{Noted, noted}
use Rattle.run_events.specs.Told.{all_noted}

pub noted_behind : (l : Noted) (es fs : List Event) → all_noted l (es ++ fs) ≡ all_noted (all_noted l es) fs
noted_behind l [] fs = refl
noted_behind l (e ∷ es) fs = noted_behind (noted l e) es fs
