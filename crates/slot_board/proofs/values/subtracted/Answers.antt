use Rattle.std.proofs.Common.{◌-ℤ◌, FitsSigned}
use Rattle.std.specs.Int.{w128}
use Rattle.std.proofs.lemmas.Int.{to_z-of_z}
use Rattle.quick_integers.proofs.Fits.{in_any, difference_fits}
use Rattle.slot_board.proofs.values.subtracted.Goals as goal

pub returns : goal.returns
returns c =
    let fits : FitsSigned w128 (c.args.left -ℤ c.args.right) = difference_fits _ _ (in_any _ _ _ c.requires.left) (in_any _ _ _ c.requires.right) in
    let left : FitsSigned w128 c.args.left = c.ranges.left in
    let right : FitsSigned w128 c.args.right = c.ranges.right in
    simp to_z-of_z at c.summed.ensures
