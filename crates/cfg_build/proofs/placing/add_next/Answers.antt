use Rattle.std.proofs.Common.{◌≡◌, sym, ap, ◌∙◌, Some, slice_get}
use Rattle.code_moves.specs.Setting.{setting_of, site_of}
use Rattle.cfg_build.specs.Follows.{plan_of}
use Rattle.cfg_build.specs.Made as made
use Rattle.cfg_build.specs.Made.{drawn_of}
use Rattle.cfg_build.proofs.Drawing.{still, got}
use Rattle.cfg_build.proofs.placing.add_next.Goals as goal

pub returns-clause-made : goal.returns-clause-made
returns-clause-made c =
    let p = c.args.places.now in
    let there : Some c.in-Some.instruction ≡ slice_get p.whole.code.now c.args.place = sym c.in-Some.is ∙ c.copied.ensures ∙ got _ _ _ c.get.ensures.lookup in
    still _ _ _ _ c.add_place.ensures.made
    (ap (made.add_found (plan_of p) p.whole.owners.now (site_of (setting_of c.args.ground.now)) (drawn_of c.args.words.now c.args.draft.now) c.args.place) there)
