use Rattle.std.proofs.Common.{[], ℕ, List}
use Rattle.code_moves.proofs.Standing.{stand-later}
use Rattle.code_moves.proofs.Doing.{deeds-later, filled}
use Rattle.code_moves.specs.Setting.{setting_of, site_of}
use Rattle.code_moves.proofs.Making.{then-filled}
use Rattle.code_moves.proofs.ground.Ground.read.Goals as goal

pub returns-clause-does : goal.returns-clause-does
returns-clause-does c = λ ds h d.
    let z = λ (s : List ℕ). c.in_ok-value.ensures.shows s h in
    filled _ _ _ _ _ (z []).grows (c.fill.ensures.does _ ds _ (stand-later _ _ _ (z []).grows h) (deeds-later _ _ _ ds (z []).grows d) (λ s. (z s).shows))

pub returns-clause-made : goal.returns-clause-made
returns-clause-made c = then-filled _ (site_of (setting_of c.args.self.now)) _ _ _ c.args.ops.now.items c.args.slot _ c.fill.ensures.made c.in_ok-value.ensures.made
