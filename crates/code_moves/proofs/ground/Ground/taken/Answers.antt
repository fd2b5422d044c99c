use Rattle.std.proofs.Common.{sym, ap, ◌++◌, Bool}
use Rattle.code_moves.specs.Setting.{setting_of}
use Rattle.code_moves.specs.Moves.{takes}
use Rattle.code_moves.proofs.Doing.{does-equal}
use Rattle.c_terms.proofs.Choosing.{fails, holds}
use Rattle.code_moves.proofs.Making.{so}
use Rattle.code_moves.proofs.ground.Ground.taken.Goals as goal

pub returns-then-is_needed-clause-does : goal.returns-then-is_needed-clause-does
returns-then-is_needed-clause-does c = λ ds h d.
    does-equal _ _ _ _ _ _ (ap (λ (b : Bool). ds ++ takes (setting_of c.args.self.now) c.args.slot c.args.from b) (sym c.if-is_needed.true)) (c.take.ensures.does ds h d)

pub returns-else-is_needed-clause-does : goal.returns-else-is_needed-clause-does
returns-else-is_needed-clause-does c = λ ds h d.
    does-equal _ _ _ _ _ _ (ap (λ (b : Bool). ds ++ takes (setting_of c.args.self.now) c.args.slot c.args.from b) (sym c.if-is_needed.false)) (c.take_some.ensures.does ds h d)

pub returns-then-is_needed-clause-made : goal.returns-then-is_needed-clause-made
returns-then-is_needed-clause-made c = so _ _ _ _ c.take.ensures.made (holds _ _ _ c.if-is_needed.true)

pub returns-else-is_needed-clause-made : goal.returns-else-is_needed-clause-made
returns-else-is_needed-clause-made c = so _ _ _ _ c.take_some.ensures.made (fails _ _ _ c.if-is_needed.false)
