use Rattle.std.proofs.Common.{sym, ap, ◌++◌, Option, ℕ}
use Rattle.code_moves.specs.Setting.{setting_of, site_of}
use Rattle.code_moves.specs.Moves.{step_behind}
use Rattle.code_moves.proofs.Doing.{does-equal}
use Rattle.code_moves.proofs.Making.{so}
use Rattle.code_moves.specs.Made as made
use Rattle.code_moves.proofs.ground.Ground.change_behind.Goals as goal

pub returns-in-None-clause-does : goal.returns-in-None-clause-does
returns-in-None-clause-does c = λ ds h d.
    does-equal _ _ _ _ _ _ (ap (λ (o : Option ℕ). ds ++ step_behind (setting_of c.args.self.now) c.args.slot c.args.object c.args.by c.args.kind o) c.in-None.ensures) (c.step.ensures.does ds h d)

pub returns-in-Some-clause-does : goal.returns-in-Some-clause-does
returns-in-Some-clause-does c = λ ds h d.
    does-equal _ _ _ _ _ _ (ap (λ (o : Option ℕ). ds ++ step_behind (setting_of c.args.self.now) c.args.slot c.args.object c.args.by c.args.kind o) c.in-Some.ensures) (c.step_behind.ensures.does ds h (h.lies.slots _ _ (sym c.in-Some.ensures)) d)

pub returns-in-None-clause-made : goal.returns-in-None-clause-made
returns-in-None-clause-made c = so _ _ _ _ c.step.ensures.made (ap (λ (o : Option ℕ). made.change_in (site_of (setting_of c.args.self.now)) c.args.words.now c.args.ops.now.items c.args.slot o c.args.by c.args.kind c.args.object) c.in-None.ensures)

pub returns-in-Some-clause-made : goal.returns-in-Some-clause-made
returns-in-Some-clause-made c = so _ _ _ _ c.step_behind.ensures.made (ap (λ (o : Option ℕ). made.change_in (site_of (setting_of c.args.self.now)) c.args.words.now c.args.ops.now.items c.args.slot o c.args.by c.args.kind c.args.object) c.in-Some.ensures)
