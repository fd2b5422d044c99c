use Rattle.std.proofs.Common.{ap, ◌∙◌, rules}
use Rattle.std.specs.Prelude.{IsTrue}
use Rattle.code_moves.specs.Setting.{setting_of}
use Rattle.code_moves.proofs.Standing.{stand-later}
use Rattle.cfg_build.specs.Follows.{plan_of}
use Rattle.cfg_build.specs.Looped.{loops_at}
use Rattle.cfg_build.proofs.Drawing.{main-drawn}
use Rattle.cfg_build.proofs.Graphing.{graph-of, main-built}
use Rattle.cfg_build.proofs.building.main_graph.Goals as goal

pub returns-clause-made : goal.returns-clause-made
returns-clause-made c = λ h.
    let a = c.in_ok-add_opening.ensures.built h in
    let t : IsTrue c.in_ok-add_places.field-0 = search rules in
    let b = c.in_ok-add_places.ensures.built (stand-later _ _ _ a.0 h) t in
    let k = main-built _ _ _ _ _ _ (plan_of c.args.places.now) (setting_of c.args.ground.now) a b in
    (k.0, graph-of _ _ _ (plan_of c.args.places.now) _ _ c.new-draft.ensures k.1 c.in_ok-loops.ensures.loops c.into_graph.ensures)

pub returns-clause-value : goal.returns-clause-value
returns-clause-value c =
    let p = plan_of c.args.places.now in
    let t : IsTrue c.in_ok-add_places.field-0 = search rules in
    main-drawn c.args.words.now c.add_opening.new.words _ c.new-draft.result c.add_opening.new.draft c.add_places.new.draft p c.args.places.now.whole.owners.now (setting_of c.args.ground.now) _ c.args.main _ _ _ c.new-draft.ensures
    c.in_ok-add_opening.ensures.made (c.in_ok-add_places.ensures.made t) c.in_ok-offsets.ensures (c.in_ok-loops.ensures.made ∙ ap (loops_at p) c.deref.ensures.value) c.into_graph.ensures
