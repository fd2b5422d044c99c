use Rattle.std.proofs.Common.{sym, ap, ◌++◌, Bool}
use Rattle.code_moves.specs.Setting.{setting_of}
use Rattle.code_moves.specs.Moves.{changes}
use Rattle.code_moves.proofs.Doing.{does-equal}
use Rattle.c_terms.proofs.Choosing.{fails, holds}
use Rattle.code_moves.proofs.Making.{so}
use Rattle.code_moves.proofs.ground.Ground.change.Goals as goal

pub returns-then-is_before-clause-does : goal.returns-then-is_before-clause-does
returns-then-is_before-clause-does c = λ ds h d.
    does-equal _ _ _ _ _ _ (ap (λ (b : Bool). ds ++ changes (setting_of c.args.self.now) c.args.slot b c.args.by c.args.kind c.args.object) (sym c.if-is_before.true)) (c.change_before.ensures.does ds h d)

pub returns-else-is_before-clause-does : goal.returns-else-is_before-clause-does
returns-else-is_before-clause-does c = λ ds h d.
    does-equal _ _ _ _ _ _ (ap (λ (b : Bool). ds ++ changes (setting_of c.args.self.now) c.args.slot b c.args.by c.args.kind c.args.object) (sym c.if-is_before.false)) (c.change_behind.ensures.does ds h d)

pub returns-then-is_before-clause-made : goal.returns-then-is_before-clause-made
returns-then-is_before-clause-made c = so _ _ _ _ c.change_before.ensures.made (holds _ _ _ c.if-is_before.true)

pub returns-else-is_before-clause-made : goal.returns-else-is_before-clause-made
returns-else-is_before-clause-made c = so _ _ _ _ c.change_behind.ensures.made (fails _ _ _ c.if-is_before.false)
