use Rattle.std.proofs.Common.{ap, ◌++◌, ℕ}
use Rattle.code_moves.specs.Setting.{setting_of, site_of}
use Rattle.code_moves.specs.Moves.{fills, old_value}
use Rattle.code_moves.proofs.Doing.{does-equal}
use Rattle.code_moves.proofs.Making.{so}
use Rattle.code_moves.specs.Made as made
use Rattle.code_moves.proofs.ground.Ground.load_behind.Goals as goal

pub returns-clause-does : goal.returns-clause-does
returns-clause-does c = λ ds h d.
    does-equal _ _ _ _ _ _ (ap (λ (to : ℕ). ds ++ fills (setting_of c.args.self.now) to (old_value (setting_of c.args.self.now) c.args.slot c.args.object)) c.in_ok-to.ensures) (c.load.ensures.does ds h d)

pub returns-clause-made : goal.returns-clause-made
returns-clause-made c = so _ _ _ _ c.load.ensures.made (ap (λ (to : ℕ). made.load (site_of (setting_of c.args.self.now)) c.args.words.now c.args.ops.now.items c.args.slot to c.args.object) c.in_ok-to.ensures)
