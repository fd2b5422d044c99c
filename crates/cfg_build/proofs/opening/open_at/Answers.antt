use Rattle.std.proofs.Common.{◌≡◌, ap, ◌++◌, Option, Ok, Some, None, sym, length, ltb-true, slice_get}
use Rattle.c_typed.specs.declared.tree.Object.{Object}
use Rattle.code_moves.specs.Setting.{setting_of}
use Rattle.code_moves.proofs.Doing.{does-none, does-equal}
use Rattle.cfg_build.specs.Graphs.{object_opens}
use Rattle.cfg_build.proofs.Graphing.{none-there, some-there}
use Rattle.code_moves.proofs.Making.{so}
use Rattle.cfg_build.specs.Openings as made
use Rattle.cfg_build.proofs.opening.open_at.Goals as goal

pub returns-in-None-clause-does : goal.returns-in-None-clause-does
returns-in-None-clause-does c = λ ds h f d.
    let e : None ≡ slice_get c.args.ground.now.objects.now c.args.number = none-there _ _ c.in-None.ensures.lookup.3 in
    does-equal (Ok tt) _ _ _ _ _ (ap (λ (o : Option Object). ds ++ object_opens (setting_of c.args.ground.now) (Some c.args.first) o) e) (does-none _ _ ds d)

pub returns-in-Some-clause-does : goal.returns-in-Some-clause-does
returns-in-Some-clause-does c = λ ds h f d.
    let e : Some c.in-Some.object.now ≡ slice_get c.args.ground.now.objects.now c.args.number = some-there _ _ _ (ltb-true c.args.number (length c.args.ground.now.objects.now) (sym c.in-Some.ensures.lookup.0)) c.in-Some.ensures.lookup.1 in
    let lies = h.lies.elements c.args.number c.args.first c.in-Some.object.now (sym e) f in
    does-equal _ _ _ _ _ _ (ap (λ (o : Option Object). ds ++ object_opens (setting_of c.args.ground.now) (Some c.args.first) o) e) (c.open_elements.ensures.does ds lies.0 lies.1 d)

pub returns-in-None-clause-made : goal.returns-in-None-clause-made
returns-in-None-clause-made c =
    let e : None ≡ slice_get c.args.ground.now.objects.now c.args.number = none-there _ _ c.in-None.ensures.lookup.3 in
    ap (λ (o : Option Object). made.open_in (setting_of c.args.ground.now) c.args.words.now c.args.ops.now.items c.args.first o) e

pub returns-in-Some-clause-made : goal.returns-in-Some-clause-made
returns-in-Some-clause-made c =
    let e : Some c.in-Some.object.now ≡ slice_get c.args.ground.now.objects.now c.args.number = some-there _ _ _ (ltb-true c.args.number (length c.args.ground.now.objects.now) (sym c.in-Some.ensures.lookup.0)) c.in-Some.ensures.lookup.1 in
    so _ _ _ _ c.open_elements.ensures.made (ap (λ (o : Option Object). made.open_in (setting_of c.args.ground.now) c.args.words.now c.args.ops.now.items c.args.first o) e)
