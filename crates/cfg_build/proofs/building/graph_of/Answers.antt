use Rattle.std.proofs.Common.{◌==◌}
use Rattle.std.proofs.lemmas.Bool.{eq-eqb}
use Rattle.c_terms.proofs.Choosing.{holds, fails}
use Rattle.c_typed.specs.Parts.{tree_of}
use Rattle.code_moves.specs.Setting.{setting_of, site_of}
use Rattle.cfg_build.specs.Follows.{plan_of}
use Rattle.cfg_build.specs.Made as made
use Rattle.cfg_build.proofs.Drawing.{graph-so, differ}
use Rattle.cfg_build.proofs.building.graph_of.Goals as goal

pub returns-then-places-main-clause-value : goal.returns-then-places-main-clause-value
returns-then-places-main-clause-value c =
    let q = c.args.places.now in
    let p = plan_of q in
    let s = setting_of c.args.ground.now in
    let g = site_of s in
    let functions = (tree_of c.args.typed.now).functions in
    let w = c.args.words.now in
    graph-so _ _ _ _ c.main_graph.ensures.value
    (holds (q.range.function == c.args.main) (made.main_graph p q.whole.owners.now g (made.opened s) functions c.args.main w) (made.own_graph p q.whole.owners.now g w) (eq-eqb q.range.function c.args.main c.if-places-main.true))

pub returns-else-places-main-clause-value : goal.returns-else-places-main-clause-value
returns-else-places-main-clause-value c =
    let q = c.args.places.now in
    let p = plan_of q in
    let s = setting_of c.args.ground.now in
    let g = site_of s in
    let functions = (tree_of c.args.typed.now).functions in
    let w = c.args.words.now in
    graph-so _ _ _ _ c.own_graph.ensures.value
    (fails (q.range.function == c.args.main) (made.main_graph p q.whole.owners.now g (made.opened s) functions c.args.main w) (made.own_graph p q.whole.owners.now g w) (differ q.range.function c.args.main c.if-places-main.false))
