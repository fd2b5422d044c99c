use Rattle.std.proofs.Common.{rules}
use Rattle.std.specs.Prelude.{IsTrue}
use Rattle.code_moves.specs.Setting.{setting_of, site_of}
use Rattle.cfg_build.specs.Follows.{plan_of}
use Rattle.cfg_build.proofs.Drawing.{own-drawn}
use Rattle.cfg_build.proofs.building.own_graph.Goals as goal

pub returns-clause-value : goal.returns-clause-value
returns-clause-value c =
    let t : IsTrue c.in_ok-add_places.field-0 = search rules in
    own-drawn c.args.words.now _ c.new-draft.result c.add_places.new.draft (plan_of c.args.places.now) _ (site_of (setting_of c.args.ground.now)) _ _ c.new-draft.ensures (c.in_ok-add_places.ensures.made t) c.new.ensures.items c.into_graph.ensures
