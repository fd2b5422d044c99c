use Rattle.std.proofs.Common.{ap, [], ◌++◌, ℕ, List, ℤ, ◌∙◌}
use Rattle.std.specs.Int.{w128}
use Rattle.std.proofs.lemmas.Int.{to_z-of_z}
use Rattle.lv_base.specs.Integers.{residue}
use Rattle.code_moves.specs.Setting.{setting_of, site_of}
use Rattle.code_moves.specs.Moves.{fills}
use Rattle.code_moves.proofs.Standing.{stand-later}
use Rattle.code_moves.proofs.Doing.{deeds-later, filled, does-equal}
use Rattle.code_moves.proofs.Making.{then-filled}
use Rattle.c_terms.specs.Made as term
use Rattle.code_moves.proofs.ground.Ground.constant.Goals as goal

pub returns-clause-does : goal.returns-clause-does
returns-clause-does c = λ ds h d.
    let z = λ (s : List ℕ). c.in_ok-value.ensures.shows s in
    does-equal _ _ _ _ _ _ (ap (λ (x : ℤ). ds ++ fills (setting_of c.args.self.now) c.args.slot (λ store. residue 64 x)) (to_z-of_z w128 c.args.value c.ranges.value))
    (filled _ _ _ _ _ (z []).grows (c.fill.ensures.does _ ds _ (stand-later _ _ _ (z []).grows h) (deeds-later _ _ _ ds (z []).grows d) (λ s. (z s).shows)))

pub returns-clause-made : goal.returns-clause-made
returns-clause-made c = then-filled _ (site_of (setting_of c.args.self.now)) _ _ _ c.args.ops.now.items c.args.slot _ c.fill.ensures.made (c.in_ok-value.ensures.made ∙ ap (term.constant c.args.words.now) (to_z-of_z w128 c.args.value c.ranges.value))
