use Rattle.std.proofs.Common.{ap, ◌∙◌, ◌++◌, Option, Ok, ℕ, arith}
use Rattle.code_moves.specs.declared.ground.Room.{Room}
use Rattle.code_moves.specs.Setting.{setting_of, site_of}
use Rattle.code_moves.specs.Moves.{begins_in, begins_first}
use Rattle.code_moves.proofs.Standing.{room-stands}
use Rattle.code_moves.proofs.Doing.{does-none, does-equal}
use Rattle.code_moves.proofs.Making.{so}
use Rattle.code_moves.specs.Made as made
use Rattle.code_moves.proofs.ground.Ground.begin.Goals as goal

pub returns-in-None-clause-does : goal.returns-in-None-clause-does
returns-in-None-clause-does c = λ ds h d.
    does-equal (Ok tt) _ _ _ _ _ (ap (λ (o : Option Room). ds ++ begins_in (setting_of c.args.self.now) o c.args.slot c.args.count c.args.values) c.in-None.ensures) (does-none _ _ ds d)

pub returns-in-Some-clause-does : goal.returns-in-Some-clause-does
returns-in-Some-clause-does c = λ ds h d.
    let w = setting_of c.args.self.now in
    does-equal _ _ _ _ _ _ (
    ap (λ (n : ℕ). ds ++ begins_first w c.in-Some.room c.args.slot c.args.values n) c.count_in.ensures
    ∙ ap (λ (o : Option Room). ds ++ begins_in w o c.args.slot c.args.count c.args.values) c.in-Some.ensures
    )
    (c.begin_first.ensures.does ds h (room-stands _ _ c.args.object _ h c.in-Some.ensures) (omega (arith, c.count_in.ensures)) d)

pub returns-in-None-clause-made : goal.returns-in-None-clause-made
returns-in-None-clause-made c = ap (λ (o : Option Room). made.begin_in (site_of (setting_of c.args.self.now)) c.args.words.now c.args.ops.now.items c.args.slot o c.args.count c.args.values) c.in-None.ensures

pub returns-in-Some-clause-made : goal.returns-in-Some-clause-made
returns-in-Some-clause-made c =
    let g = site_of (setting_of c.args.self.now) in
    let w = c.args.words.now in
    let ops = c.args.ops.now.items in
    so _ _ _ _ c.begin_first.ensures.made (
    ap (λ (n : ℕ). made.begin_first g w ops c.args.slot c.in-Some.room n c.args.values) c.count_in.ensures
    ∙ ap (λ (o : Option Room). made.begin_in g w ops c.args.slot o c.args.count c.args.values) c.in-Some.ensures
    )
